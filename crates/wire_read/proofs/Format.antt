-- Every payload of the format is accepted and read as it was put together, and what is accepted is of the format.
-- Assumes nothing.
use Prim.Native.Nat.{ℕ, zero, suc, ◌+◌, ◌*◌, ◌-◌, ◌^◌, ◌≤◌, ◌<◌}
use native.Mathlib.Nat.{le_refl}
use native.Mathlib.Omega.{arith}
use mathlib.Core.Path.{◌≡◌, refl, sym, ap, subst, ◌∙◌}
use mathlib.Core.Bool.{Bool, false, cond, ◌&&◌, ◌||◌}
use mathlib.Core.List.{List, ◌++◌, append_assoc}
use lib.ListN.{length, get_or, take, drop, length-append, length-drop, take-append-drop}
use lib.Seq.{length-take-le, take_all, take-add, drop-drop, get_or-take, get_or-drop}
use borrow.Author.Tests.{ltb-false, le-ltb}
use Rattle.lent.proofs.Exactly.{nor}
use Rattle.wire_fields.specs.Fields.{u32_at, kind_in, size_in}
use Rattle.wire_fields.proofs.Fields.{u32_front, u32_behind}
use Rattle.wire_read.specs.declared.Stream.{Stream}
use Rattle.wire_read.specs.declared.Avc444.{Avc444}
use Rattle.wire_read.specs.Reading.{kind_of, first_size_of, carries_luma, carries_chroma, follows, stream_in, no_stream, past_end, read_number_of, read_of}
use Rattle.wire_read.specs.Format.{Parts, bytes_of, Sound, places_at, Payload}
use Rattle.wire_read.specs.Format.Payload.{both, luma, chroma}
use Rattle.wire_read.proofs.Reading.{Good, head_good, past_end_is, read_accepted, read_whole, read_carried}

-- ---- the answer by kind

module _ (s : List ℕ) where
  abbrev past_at : ℕ → Bool
  past_at k = (carries_luma k && past_end s 4 (follows k (first_size_of s) (length s))) || (carries_chroma k && past_end s (follows k (first_size_of s) 4) (length s))

  abbrev answer_at : ℕ → Avc444
  answer_at k = record {
    number = 0;
    kind = k;
    luma = cond (carries_luma k) (stream_in s 4 (follows k (first_size_of s) (length s))) no_stream;
    chroma = cond (carries_chroma k) (stream_in s (follows k (first_size_of s) 4) (length s)) no_stream;
  }

  -- in kind k, where no stream of that kind runs past its end
  read_at : Good s → (k : ℕ) → kind_of s ≡ k → past_at k ≡ false → read_of s ≡ answer_at k
  read_at g k is p = sym (read_carried s (read_whole s (sym (head_good s g.four g.known g.room)) (ap past_at is ∙ p))) ∙ ap answer_at is

  pub read_both : Good s → kind_of s ≡ 0 → past_end s 4 (4 + first_size_of s) ≡ false → past_end s (4 + first_size_of s) (length s) ≡ false
      → read_of s ≡ record { number = 0; kind = 0; luma = stream_in s 4 (4 + first_size_of s); chroma = stream_in s (4 + first_size_of s) (length s) }
  read_both g k p q = read_at g 0 k ((nor (past_end s 4 (4 + first_size_of s)) (past_end s (4 + first_size_of s) (length s))).1 (p, q))

  pub read_luma : Good s → kind_of s ≡ 1 → past_end s 4 (length s) ≡ false → read_of s ≡ record { number = 0; kind = 1; luma = stream_in s 4 (length s); chroma = no_stream }
  read_luma g k p = read_at g 1 k ((nor (past_end s 4 (length s)) false).1 (p, refl))

  pub read_chroma : Good s → kind_of s ≡ 2 → past_end s 4 (length s) ≡ false → read_of s ≡ record { number = 0; kind = 2; luma = no_stream; chroma = stream_in s 4 (length s) }
  read_chroma g k p = read_at g 2 k p

-- ---- a stream that was put together

long : (p : Parts) → Sound p → length (bytes_of p) ≡ 4 + 10 * u32_at p.count 0 + length p.h264
long p f =
    let a = length-append p.count (p.rects ++ (p.pairs ++ p.h264)) in
    let b = length-append p.rects (p.pairs ++ p.h264) in
    let c = length-append p.pairs p.h264 in
    omega (arith, f)

module _ (s : List ℕ) (a e : ℕ) (p : Parts) (f : Sound p) (is : u32_at s a ≡ u32_at p.count 0) (ends : e ≡ a + length (bytes_of p)) where
  pub not_past : past_end s a e ≡ false
  not_past = let l = long p f in past_end_is s a e ∙ le-ltb e (a + 4 + 10 * u32_at s a) (omega arith)

  pub places : stream_in s a e ≡ places_at a p
  places =
      let l = long p f in
      let pairs-at : a + 4 + 8 * u32_at s a ≡ a + 4 + length p.rects = omega (arith, f) in
      let data-at : a + 4 + 10 * u32_at s a ≡ a + 4 + length p.rects + length p.pairs = omega (arith, f) in
      let rest : e - (a + 4 + 10 * u32_at s a) ≡ length p.h264 = omega (arith, f) in
      λ i. record { count = is i; rects = a + 4; pairs = pairs-at i; «data» = data-at i; length = rest i }

-- ---- every payload of the format is accepted and read so

-- the first number of a payload
module _ (h t : List ℕ) (four : length h ≡ 4) where
  pub kind_is : kind_of (h ++ t) ≡ kind_of h
  kind_is = ap kind_in (u32_front h t (omega arith))

  size_is : first_size_of (h ++ t) ≡ first_size_of h
  size_is = ap size_in (u32_front h t (omega arith))

  -- and its streams
  first_is : (p : Parts) (rest : List ℕ) → Sound p → t ≡ p.count ++ rest → u32_at (h ++ t) 4 ≡ u32_at p.count 0
  first_is p rest f e = u32_behind h t 4 four ∙ ap (λ (x : List ℕ). u32_at x 0) e ∙ u32_front p.count rest (omega (arith, f))

  sound : (k : ℕ) → kind_of h ≡ k → k < 3 → first_size_of h ≤ length t → Good (h ++ t)
  sound k is below fits =
      let l = length-append h t in
      let s = size_is in
      let n = kind_is in
      record { four = omega arith; known = λ e. omega arith; room = omega arith }

pub format_read : (s : List ℕ) (a : Avc444) → Payload s a → read_of s ≡ a
format_read s a (both h l c four k z f g) =
    let t = bytes_of l ++ bytes_of c in
    let s = h ++ t in
    let size = size_is h t four in
    let u = length-append h t in
    let v = length-append (bytes_of l) (bytes_of c) in
    let w = length-append h (bytes_of l) in
    let middle : 4 + first_size_of s ≡ 4 + length (bytes_of l) = omega arith in
    let end : length s ≡ 4 + first_size_of s + length (bytes_of c) = omega arith in
    let one = first_is h t four l _ f (append_assoc l.count (l.rects ++ (l.pairs ++ l.h264)) (bytes_of c)) in
    let two : u32_at s (4 + first_size_of s) ≡ u32_at c.count 0 =
    ap (λ (x : List ℕ). u32_at x (4 + first_size_of s)) (sym (append_assoc h (bytes_of l) (bytes_of c)))
    ∙ u32_behind (h ++ bytes_of l) (bytes_of c) (4 + first_size_of s) (omega arith)
    ∙ u32_front c.count _ (omega (arith, g)) in
    read_both s (sound h t four 0 k (omega arith) (omega arith)) (kind_is h t four ∙ k)
    (not_past s 4 (4 + first_size_of s) l f one middle) (not_past s (4 + first_size_of s) (length s) c g two end)
    ∙ (λ i. record {
      number = 0;
      kind = 0;
      luma = places s 4 (4 + first_size_of s) l f one middle i;
      chroma = (places s (4 + first_size_of s) (length s) c g two end ∙ ap (λ (x : ℕ). places_at x c) middle) i;
    })
format_read s a (luma h l four k z f) =
    let s = h ++ bytes_of l in
    let e : length s ≡ 4 + length (bytes_of l) = omega (arith, length-append h (bytes_of l)) in
    let is = first_is h (bytes_of l) four l _ f refl in
    read_luma s (sound h (bytes_of l) four 1 k (omega arith) z) (kind_is h (bytes_of l) four ∙ k) (not_past s 4 (length s) l f is e)
    ∙ ap (λ (x : Stream). record { number = 0; kind = 1; luma = x; chroma = no_stream }) (places s 4 (length s) l f is e)
format_read s a (chroma h c four k z f) =
    let s = h ++ bytes_of c in
    let e : length s ≡ 4 + length (bytes_of c) = omega (arith, length-append h (bytes_of c)) in
    let is = first_is h (bytes_of c) four c _ f refl in
    read_chroma s (sound h (bytes_of c) four 2 k (omega arith) z) (kind_is h (bytes_of c) four ∙ k) (not_past s 4 (length s) c f is e)
    ∙ ap (λ (x : Stream). record { number = 0; kind = 2; luma = no_stream; chroma = x }) (places s 4 (length s) c f is e)

-- ---- what is accepted is of the format

-- a stream cut into its parts
module _ (s : List ℕ) (a e : ℕ) where
  abbrev n : ℕ
  n = u32_at s a

  abbrev cut : Parts
  cut = record {
    count = take 4 (drop a s);
    rects = take (8 * n) (drop (a + 4) s);
    pairs = take (2 * n) (drop (a + 4 + 8 * n) s);
    h264 = take (e - (a + 4 + 10 * n)) (drop (a + 4 + 10 * n) s);
  }

  module _ (in_it : a + 4 + 10 * n ≤ e) (inside : e ≤ length s) where
    part : (i k : ℕ) → i + k ≤ length s → length (take k (drop i s)) ≡ k
    part i k h = length-take-le k (drop i s) (let l = length-drop i s in omega arith)

    count_is : u32_at (take 4 (drop a s)) 0 ≡ n
    unfolding u32_at
    count_is = λ i. byte 0 a (omega arith) i + byte 1 (a + 1) (omega arith) i * 256 + byte 2 (a + 2) (omega arith) i * 65536 + byte 3 (a + 3) (omega arith) i * 16777216
      where
        byte : (j k : ℕ) → (j < 4) × (a + j ≡ k) → get_or (take 4 (drop a s)) j 0 ≡ get_or s k 0
        byte j k h = get_or-take 4 (drop a s) j 0 h.0 ∙ get_or-drop a s j 0 ∙ ap (λ (x : ℕ). get_or s x 0) h.1

    cut_sound : Sound cut
    cut_sound = record {
      four = part a 4 (omega arith);
      rects_fit = part (a + 4) (8 * n) (omega arith) ∙ ap (λ (x : ℕ). 8 * x) (sym count_is);
      pairs_fit = part (a + 4 + 8 * n) (2 * n) (omega arith) ∙ ap (λ (x : ℕ). 2 * x) (sym count_is);
    }

    -- parts that meet are one
    meet : (i j k m : ℕ) → i + j ≡ m → take j (drop i s) ++ take k (drop m s) ≡ take (j + k) (drop i s)
    meet i j k m is = ap (λ (x : List ℕ). take j (drop i s) ++ take k x) (ap (λ (x : ℕ). drop x s) (sym is) ∙ sym (drop-drop j i s)) ∙ sym (take-add j k (drop i s))

    pub cut_bytes : bytes_of cut ≡ take (e - a) (drop a s)
    cut_bytes =
        let rest : ℕ = e - (a + 4 + 10 * n) in
        let all : 4 + (8 * n + (2 * n + rest)) ≡ e - a = omega arith in
        ap (λ (x : List ℕ). take 4 (drop a s) ++ (take (8 * n) (drop (a + 4) s) ++ x)) (meet (a + 4 + 8 * n) (2 * n) rest (a + 4 + 10 * n) (omega arith))
        ∙ ap (λ (x : List ℕ). take 4 (drop a s) ++ x) (meet (a + 4) (8 * n) (2 * n + rest) (a + 4 + 8 * n) refl)
        ∙ meet a 4 (8 * n + (2 * n + rest)) (a + 4) refl
        ∙ ap (λ (x : ℕ). take x (drop a s)) all

    cut_places : places_at a cut ≡ stream_in s a e
    cut_places =
        sym (places s a e cut cut_sound (sym count_is) (let l = length-take-le (e - a) (drop a s) (let d = length-drop a s in omega arith) in let b = ap length cut_bytes in omega arith))

module _ (s : List ℕ) (g : Good s) where
  head : length (take 4 s) ≡ 4
  head = length-take-le 4 s g.four

  head_first : u32_at (take 4 s) 0 ≡ u32_at s 0
  head_first = sym (u32_front (take 4 s) (drop 4 s) (omega (arith, head))) ∙ ap (λ (x : List ℕ). u32_at x 0) (take-append-drop 4 s)

  to_end : (a : ℕ) → a ≤ length s → a + 4 + 10 * u32_at s a ≤ length s → bytes_of (cut s a (length s)) ≡ drop a s
  to_end a h k = cut_bytes s a (length s) k (omega arith) ∙ take_all (length s - a) (drop a s) (let l = length-drop a s in omega arith)

  in_it : (a e : ℕ) → past_end s a e ≡ false → a + 4 + 10 * u32_at s a ≤ e
  in_it a e p = ltb-false e (a + 4 + 10 * u32_at s a) (sym (past_end_is s a e) ∙ p)

  -- in kinds 1 and 2 the header and the one stream are the payload
  one : (p : past_end s 4 (length s) ≡ false) → take 4 s ++ bytes_of (cut s 4 (length s)) ≡ s
  one p = ap (λ (x : List ℕ). take 4 s ++ x) (to_end 4 g.four (in_it 4 (length s) p)) ∙ take-append-drop 4 s

  one_fits : (p : past_end s 4 (length s) ≡ false) → first_size_of (take 4 s) ≤ length (bytes_of (cut s 4 (length s)))
  one_fits p =
      let b = ap length (to_end 4 g.four (in_it 4 (length s) p)) in
      let l = length-drop 4 s in
      let z = ap size_in head_first in
      omega (arith, g)

  -- in kind 0 the header and both are
  middle : (p : past_end s 4 (4 + first_size_of s) ≡ false) → length (bytes_of (cut s 4 (4 + first_size_of s))) ≡ first_size_of s
  middle p =
      ap length (cut_bytes s 4 (4 + first_size_of s) (in_it 4 (4 + first_size_of s) p) g.room)
      ∙ length-take-le (4 + first_size_of s - 4) (drop 4 s) (let l = length-drop 4 s in omega (arith, g))
      ∙ omega arith

  two : (p : past_end s 4 (4 + first_size_of s) ≡ false) → past_end s (4 + first_size_of s) (length s) ≡ false
      → take 4 s ++ (bytes_of (cut s 4 (4 + first_size_of s)) ++ bytes_of (cut s (4 + first_size_of s) (length s))) ≡ s
  two p q =
      let size : 4 + first_size_of s - 4 ≡ first_size_of s = omega arith in
      let first = cut_bytes s 4 (4 + first_size_of s) (in_it 4 (4 + first_size_of s) p) g.room ∙ ap (λ (k : ℕ). take k (drop 4 s)) size in
      let second = to_end (4 + first_size_of s) g.room (in_it (4 + first_size_of s) (length s) q) ∙ sym (drop-drop (first_size_of s) 4 s) in
      (λ i. take 4 s ++ (first i ++ second i)) ∙ ap (λ (x : List ℕ). take 4 s ++ x) (take-append-drop (first_size_of s) (drop 4 s)) ∙ take-append-drop 4 s

pub read_format : (s : List ℕ) → u32_at s 0 < 2 ^ 32 → read_number_of s ≡ 0 → Payload s (read_of s)
read_format s small zero_number = go (kind_of s) refl (omega (arith, g.known))
  where
    g : Good s
    g = (read_accepted s zero_number).0

    put : {t : List ℕ} {a : Avc444} → t ≡ s → a ≡ read_of s → Payload t a → Payload s (read_of s)
    put {t} {a} p q x = subst (λ (y : List ℕ). Payload y (read_of s)) p (subst (λ (b : Avc444). Payload t b) q x)

    none : (k : ℕ) → kind_of s ≡ k → past_at s k ≡ false
    none k is = sym (ap (past_at s) is) ∙ (read_accepted s zero_number).1

    go : (k : ℕ) → kind_of s ≡ k → k < 3 → Payload s (read_of s)
    go zero is h =
        let n = (nor (past_end s 4 (4 + first_size_of s)) (past_end s (4 + first_size_of s) (length s))).0 (none 0 is) in
        let l = cut_sound s 4 (4 + first_size_of s) (in_it s g 4 (4 + first_size_of s) n.0) g.room in
        let c = cut_sound s (4 + first_size_of s) (length s) (in_it s g (4 + first_size_of s) (length s) n.1) (le_refl (length s)) in
        let m = middle s g n.0 in
        put (two s g n.0 n.1)
        ((λ i. record {
          number = 0;
          kind = 0;
          luma = cut_places s 4 (4 + first_size_of s) (in_it s g 4 (4 + first_size_of s) n.0) g.room i;
          chroma = (ap (λ (x : ℕ). places_at (4 + x) (cut s (4 + first_size_of s) (length s))) m ∙ cut_places s (4 + first_size_of s) (length s) (in_it s g (4 + first_size_of s) (length s) n.1) (le_refl (length s))) i;
        })
        ∙ sym (read_both s g is n.0 n.1))
        (both (take 4 s) (cut s 4 (4 + first_size_of s)) (cut s (4 + first_size_of s) (length s)) (head s g) (ap kind_in (head_first s g) ∙ is) (ap size_in (head_first s g) ∙ sym m) l c)
    go (suc zero) is h =
        let p = ((nor (past_end s 4 (length s)) false).0 (none 1 is)).0 in
        put (one s g p)
        (ap (λ (x : Stream). record { number = 0; kind = 1; luma = x; chroma = no_stream }) (cut_places s 4 (length s) (in_it s g 4 (length s) p) (le_refl (length s))) ∙ sym (read_luma s g is p))
        (luma (take 4 s) (cut s 4 (length s)) (head s g) (ap kind_in (head_first s g) ∙ is) (one_fits s g p) (cut_sound s 4 (length s) (in_it s g 4 (length s) p) (le_refl (length s))))
    go (suc (suc zero)) is h =
        let p = none 2 is in
        put (one s g p)
        (ap (λ (x : Stream). record { number = 0; kind = 2; luma = no_stream; chroma = x }) (cut_places s 4 (length s) (in_it s g 4 (length s) p) (le_refl (length s))) ∙ sym (read_chroma s g is p))
        (chroma (take 4 s) (cut s 4 (length s)) (head s g) (ap kind_in (head_first s g) ∙ is) (one_fits s g p) (cut_sound s 4 (length s) (in_it s g 4 (length s) p) (le_refl (length s))))
    go (suc (suc (suc k))) is h = absurd (omega arith)
