-- A payload of the format is read into the parts that it was put together from, and the parts of every payload that is accepted, with its
-- first number and the counts, are the payload: they lie in it in this order, without overlap, and cover it whole.
-- Assumes nothing.
use Prim.Native.Nat.{ℕ, ◌+◌, ◌*◌, ◌-◌, ◌^◌, ◌≤◌, ◌<◌}
use native.Mathlib.Omega.{arith}
use mathlib.Core.Path.{◌≡◌, refl, sym, ap, ◌∙◌}
use mathlib.Core.Bool.{cond}
use mathlib.Core.List.{List, [], ◌++◌, append_assoc, append-nil}
use lib.ListN.{length, take, drop, length-append}
use lib.Seq.{take-append_seam, drop-append_seam}
use Rattle.wire_fields.specs.Fields.{u32_at}
use Rattle.wire_read.specs.declared.Avc444.{Avc444}
use Rattle.wire_read.specs.Reading.{kind_of, first_size_of, carries_luma, carries_chroma, read_number_of, read_of}
use Rattle.wire_read.specs.Format.{Parts, bytes_of, Sound, places_at, Payload}
use Rattle.wire_read.specs.Format.Payload.{both, luma, chroma}
use Rattle.wire_read.proofs.Format.{format_read, read_format, kind_is}
use Rattle.wire_read.specs.declared.parts.Which.TheVariants.{Luma, Chroma}
use Rattle.wire_read.specs.Parts.{parts_at, parts_of, stream_bytes}

-- what stands between xs and zs
between : (xs ys zs : List ℕ) (i k : ℕ) → length xs ≡ i → length ys ≡ k → take k (drop i (xs ++ (ys ++ zs))) ≡ ys
between xs ys zs i k e f =
    (λ j. take (sym f j) (drop (sym e j) (xs ++ (ys ++ zs)))) ∙ ap (take (length ys)) (drop-append_seam xs (ys ++ zs)) ∙ take-append_seam ys zs

-- the next part counts among those before
next : (xs ys zs ws : List ℕ) → xs ++ ((ys ++ zs) ++ ws) ≡ (xs ++ ys) ++ (zs ++ ws)
next xs ys zs ws = ap (λ (x : List ℕ). xs ++ x) (append_assoc ys zs ws) ∙ sym (append_assoc xs ys (zs ++ ws))

first : (xs ys zs ws : List ℕ) (i k : ℕ) → length xs ≡ i → length ys ≡ k → take k (drop i (xs ++ ((ys ++ zs) ++ ws))) ≡ ys
first xs ys zs ws i k e f = ap (λ (x : List ℕ). take k (drop i (xs ++ x))) (append_assoc ys zs ws) ∙ between xs ys (zs ++ ws) i k e f

-- a stream's parts, wherever it stands
pub parts_back : (pre post : List ℕ) (p : Parts) (a : ℕ) → Sound p → length pre ≡ a → parts_at (pre ++ (bytes_of p ++ post)) (places_at a p) ≡ p
parts_back pre post p a f e = λ i. record { count = count_is i; rects = rects_are i; pairs = pairs_are i; h264 = h264_is i }
  where
    n : ℕ
    n = u32_at p.count 0

    one : pre ++ (bytes_of p ++ post) ≡ (pre ++ p.count) ++ ((p.rects ++ (p.pairs ++ p.h264)) ++ post)
    one = next pre p.count (p.rects ++ (p.pairs ++ p.h264)) post

    two : pre ++ (bytes_of p ++ post) ≡ ((pre ++ p.count) ++ p.rects) ++ ((p.pairs ++ p.h264) ++ post)
    two = one ∙ next (pre ++ p.count) p.rects (p.pairs ++ p.h264) post

    three : pre ++ (bytes_of p ++ post) ≡ (((pre ++ p.count) ++ p.rects) ++ p.pairs) ++ (p.h264 ++ post)
    three = two ∙ next ((pre ++ p.count) ++ p.rects) p.pairs p.h264 post

    up_to_count : length (pre ++ p.count) ≡ a + 4
    up_to_count = omega (arith, length-append pre p.count, f)

    up_to_rects : length ((pre ++ p.count) ++ p.rects) ≡ a + 4 + length p.rects
    up_to_rects = omega (arith, length-append (pre ++ p.count) p.rects, up_to_count)

    up_to_pairs : length (((pre ++ p.count) ++ p.rects) ++ p.pairs) ≡ a + 4 + length p.rects + length p.pairs
    up_to_pairs = omega (arith, length-append ((pre ++ p.count) ++ p.rects) p.pairs, up_to_rects)

    count_is : take 4 (drop (a + 4 - 4) (pre ++ (bytes_of p ++ post))) ≡ p.count
    count_is = first pre p.count (p.rects ++ (p.pairs ++ p.h264)) post (a + 4 - 4) 4 (omega arith) f.four

    rects_are : take (8 * n) (drop (a + 4) (pre ++ (bytes_of p ++ post))) ≡ p.rects
    rects_are = ap (λ (s : List ℕ). take (8 * n) (drop (a + 4) s)) one ∙ first (pre ++ p.count) p.rects (p.pairs ++ p.h264) post (a + 4) (8 * n) up_to_count f.rects_fit

    pairs_are : take (2 * n) (drop (a + 4 + length p.rects) (pre ++ (bytes_of p ++ post))) ≡ p.pairs
    pairs_are =
        ap (λ (s : List ℕ). take (2 * n) (drop (a + 4 + length p.rects) s)) two
        ∙ first ((pre ++ p.count) ++ p.rects) p.pairs p.h264 post (a + 4 + length p.rects) (2 * n) up_to_rects f.pairs_fit

    h264_is : take (length p.h264) (drop (a + 4 + length p.rects + length p.pairs) (pre ++ (bytes_of p ++ post))) ≡ p.h264
    h264_is =
        ap (λ (s : List ℕ). take (length p.h264) (drop (a + 4 + length p.rects + length p.pairs) s)) three
        ∙ between (((pre ++ p.count) ++ p.rects) ++ p.pairs) p.h264 post (a + 4 + length p.rects + length p.pairs) (length p.h264) up_to_pairs refl

-- the last stream of a payload
last_back : (pre : List ℕ) (p : Parts) (a : ℕ) → Sound p → length pre ≡ a → parts_at (pre ++ bytes_of p) (places_at a p) ≡ p
last_back pre p a f e = ap (λ (x : List ℕ). parts_at (pre ++ x) (places_at a p)) (sym (append-nil (bytes_of p))) ∙ parts_back pre [] p a f e

-- ---- a payload of the format is read into its parts

module _ (h : List ℕ) (four : length h ≡ 4) where
  module _ (l c : Parts) (k : kind_of h ≡ 0) (z : first_size_of h ≡ length (bytes_of l)) (f : Sound l) (g : Sound c) where
    abbrev s : List ℕ
    s = h ++ (bytes_of l ++ bytes_of c)

    is_read : read_of s ≡ record { number = 0; kind = 0; luma = places_at 4 l; chroma = places_at (4 + length (bytes_of l)) c }
    is_read = format_read s _ (both h l c four k z f g)

    pub both_parts : (parts_of s Luma ≡ l) × (parts_of s Chroma ≡ c)
    both_parts = (
      ap (λ (a : Avc444). parts_at s a.luma) is_read ∙ parts_back h (bytes_of c) l 4 f four,
      ap (λ (a : Avc444). parts_at s a.chroma) is_read
          ∙ ap (λ (x : List ℕ). parts_at x (places_at (4 + length (bytes_of l)) c)) (sym (append_assoc h (bytes_of l) (bytes_of c)))
          ∙ last_back (h ++ bytes_of l) c (4 + length (bytes_of l)) g (omega (arith, length-append h (bytes_of l))),
    )

  module _ (p : Parts) (z : first_size_of h ≤ length (bytes_of p)) (f : Sound p) where
    pub luma_parts : kind_of h ≡ 1 → parts_of (h ++ bytes_of p) Luma ≡ p
    luma_parts k = ap (λ (a : Avc444). parts_at (h ++ bytes_of p) a.luma) (format_read _ _ (luma h p four k z f)) ∙ last_back h p 4 f four

    pub chroma_parts : kind_of h ≡ 2 → parts_of (h ++ bytes_of p) Chroma ≡ p
    chroma_parts k = ap (λ (a : Avc444). parts_at (h ++ bytes_of p) a.chroma) (format_read _ _ (chroma h p four k z f)) ∙ last_back h p 4 f four

-- ---- the parts of what is accepted are all of it

pub covered : (s : List ℕ) → u32_at s 0 < 2 ^ 32 → read_number_of s ≡ 0 → take 4 s ++ (stream_bytes s Luma ++ stream_bytes s Chroma) ≡ s
covered s small zero_number = go s (read_of s) (read_format s small zero_number)
  where
    go : (s : List ℕ) (a : Avc444) → Payload s a → take 4 s ++ (stream_bytes s Luma ++ stream_bytes s Chroma) ≡ s
    go s a (both h l c four k z f g) =
        let t = bytes_of l ++ bytes_of c in
        let q = both_parts h four l c k z f g in
        λ i. between [] h t 0 4 refl four i ++ (cond (carries_luma ((kind_is h t four ∙ k) i)) (bytes_of (q.0 i)) [] ++ cond (carries_chroma ((kind_is h t four ∙ k) i)) (bytes_of (q.1 i)) [])
    go s a (luma h l four k z f) =
        (λ i. between [] h (bytes_of l) 0 4 refl four i
        ++ (cond (carries_luma ((kind_is h (bytes_of l) four ∙ k) i)) (bytes_of (luma_parts h four l z f k i)) []
        ++ cond (carries_chroma ((kind_is h (bytes_of l) four ∙ k) i)) (bytes_of (parts_of (h ++ bytes_of l) Chroma)) []))
        ∙ ap (λ (x : List ℕ). h ++ x) (append-nil (bytes_of l))
    go s a (chroma h c four k z f) =
        λ i. between [] h (bytes_of c) 0 4 refl four i
        ++ (cond (carries_luma ((kind_is h (bytes_of c) four ∙ k) i)) (bytes_of (parts_of (h ++ bytes_of c) Luma)) []
        ++ cond (carries_chroma ((kind_is h (bytes_of c) four ∙ k) i)) (bytes_of (chroma_parts h four c z f k i)) [])
