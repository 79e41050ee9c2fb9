-- A payload that is accepted and whose size field is the standard's is written back to the same bytes.
-- Assumes nothing.
use Prim.Native.Nat.{ℕ, ◌*◌, ◌/◌, ◌-◌, ◌^◌, ◌≤◌, ◌<◌}
use native.Mathlib.Omega.{arith}
use mathlib.Core.Path.{◌≡◌, refl, sym, ap, subst, ◌∙◌}
use mathlib.Core.Bool.{Bool, true, false, cond, ◌&&◌, ◌||◌, false≢true}
use mathlib.Core.List.{List, [], ◌++◌}
use lib.ListN.{length, take, drop, take-append-drop}
use lib.Seq.{length-take-le}
use borrow.Author.Tests.{lt-leb}
use Rattle.lent.proofs.Exactly.{nor}
use Rattle.wire_fields.specs.Fields.{u32_at, u32_bytes, info_of}
use Rattle.wire_fields.proofs.Fields.{info_parts, u32_front}
use Rattle.wire_read.specs.declared.Avc444.{Avc444}
use Rattle.wire_read.specs.Reading.{kind_of, carries_luma, carries_chroma, read_number_of, read_of}
use Rattle.wire_read.specs.Format.{Parts, bytes_of, Sound, Payload}
use Rattle.wire_read.specs.Format.Payload.{both, luma, chroma}
use Rattle.wire_read.proofs.Exactly.{read_0_exactly}
use Rattle.wire_read.proofs.Format.{read_format, kind_is}
use Rattle.wire_read.specs.declared.parts.Which.{Which}
use Rattle.wire_read.specs.declared.parts.Which.TheVariants.{Luma, Chroma}
use Rattle.wire_read.specs.Parts.{places_of, parts_of}
use Rattle.wire_read.proofs.Covered.{both_parts, luma_parts, chroma_parts, covered}
use Rattle.wire_write.specs.Stream.{parts_from}
use Rattle.wire_write.specs.declared.number.StreamSizes.{StreamSizes}
use Rattle.wire_write.specs.Number.{uneven, count_large, lists_wrong}
use Rattle.wire_write.proofs.Exactly.{even_exactly}
use Rattle.wire_write.proofs.NumberLaws.{write_0_exactly}
use Rattle.wire_write.specs.Writing.{sizes_given, parts_given, size_for, payload_of, given_number_of}
use Rattle.wire_write.proofs.Writing.{payload_long}
use Rattle.wire_back.specs.Back.{numbers_in, given_in, AllBelow, Standard}
use Rattle.wire_back.proofs.Numbers.{bytes_take, bytes_part, four_bytes, numbers_long, numbers_bytes}

-- ---- the parts of a stream

module _ (p : Parts) (f : Sound p) (h : AllBelow 256 p.count) where
  abbrev count : ℕ
  count = u32_at p.count 0

  numbers_count : length (numbers_in p.rects) ≡ 4 * count
  numbers_count = numbers_long (4 * count) p.rects (omega (arith, f))

  pub parts_again : AllBelow 256 p.rects → parts_from (numbers_in p.rects) p.pairs p.h264 ≡ p
  parts_again k =
      let many : length (numbers_in p.rects) / 4 ≡ count = let e = numbers_count in omega arith in
      λ i. record {
        count = (ap u32_bytes many ∙ (four_bytes p.count f.four h).0) i;
        rects = numbers_bytes (4 * count) p.rects (omega (arith, f)) k i;
        pairs = p.pairs;
        h264 = p.h264;
      }

-- each stream that is carried is sound
parts_sound : (s : List ℕ) → u32_at s 0 < 2 ^ 32 → read_number_of s ≡ 0
    → (carries_luma (kind_of s) ≡ true → Sound (parts_of s Luma)) × (carries_chroma (kind_of s) ≡ true → Sound (parts_of s Chroma))
parts_sound s small zero_number = go s (read_of s) (read_format s small zero_number)
  where
    go : (s : List ℕ) (a : Avc444) → Payload s a → (carries_luma (kind_of s) ≡ true → Sound (parts_of s Luma)) × (carries_chroma (kind_of s) ≡ true → Sound (parts_of s Chroma))
    go s a (both h l c four k z f g) = let q = both_parts h four l c k z f g in (λ t. subst Sound (sym q.0) f, λ t. subst Sound (sym q.1) g)
    go s a (luma h l four k z f) = (
      λ t. subst Sound (sym (luma_parts h four l z f k)) f,
      λ t. absurd (false≢true (sym (ap carries_chroma (kind_is h (bytes_of l) four ∙ k)) ∙ t)),
    )
    go s a (chroma h c four k z f) = (
      λ t. absurd (false≢true (sym (ap carries_luma (kind_is h (bytes_of c) four ∙ k)) ∙ t)),
      λ t. subst Sound (sym (chroma_parts h four c z f k)) f,
    )

-- ---- the payload

-- what does not hold of a stream that is carried
carried : (is x : Bool) → (is ≡ true → x ≡ false) → (is && x) ≡ false
carried true x e = e refl
carried false x e = refl

module _ (s : List ℕ) (h : AllBelow 256 s) (zero_number : read_number_of s ≡ 0) where
  good : (4 ≤ length s) × (kind_of s ≡ 3 → ⊥)
  good = let g = ((read_0_exactly s).0 zero_number).0 in (g.four, g.known)

  head : (u32_bytes (u32_at s 0) ≡ take 4 s) × (u32_at s 0 < 2 ^ 32)
  head =
      let f = four_bytes (take 4 s) (length-take-le 4 s good.0) (bytes_take 4 s h) in
      let e : u32_at s 0 ≡ u32_at (take 4 s) 0 =
      ap (λ (x : List ℕ). u32_at x 0) (sym (take-append-drop 4 s)) ∙ u32_front (take 4 s) (drop 4 s) (let l = length-take-le 4 s good.0 in omega arith) in
      (ap u32_bytes e ∙ f.0, subst (λ (x : ℕ). x < 2 ^ 32) (sym e) f.1)

  sound : (carries_luma (kind_of s) ≡ true → Sound (parts_of s Luma)) × (carries_chroma (kind_of s) ≡ true → Sound (parts_of s Chroma))
  sound = parts_sound s head.1 zero_number

  -- a stream of it, given to a writer
  module _ (w : Which) (f : Sound (parts_of s w)) where
    count_bytes : AllBelow 256 (parts_of s w).count
    count_bytes = bytes_part 4 ((places_of s w).rects - 4) s h

    again : parts_given (given_in s w) ≡ parts_of s w
    again = parts_again (parts_of s w) f count_bytes (bytes_part (8 * (places_of s w).count) (places_of s w).rects s h)

    again_even : uneven (sizes_given (given_in s w)) ≡ false
    again_even = (even_exactly (sizes_given (given_in s w))).1 (let e = numbers_count (parts_of s w) f count_bytes in (omega arith, omega (arith, f)))

    again_small : count_large (sizes_given (given_in s w)) ≡ false
    again_small = lt-leb (2 ^ 32) (length (given_in s w).rects / 4) (let e = numbers_count (parts_of s w) f count_bytes in let b = (four_bytes (parts_of s w).count f.four count_bytes).1 in omega arith)

  abbrev luma_sizes : StreamSizes
  luma_sizes = sizes_given (given_in s Luma)

  abbrev chroma_sizes : StreamSizes
  chroma_sizes = sizes_given (given_in s Chroma)

  -- what was read is never refused for its kind
  pub known_kind : kind_of s ≤ 2
  known_kind = let b = head.1 in let k = good.1 in omega arith

  -- nor for its lists: there are four numbers and one pair for each rectangle
  pub even_lists : lists_wrong (kind_of s) luma_sizes chroma_sizes ≡ false
  even_lists = (nor _ _).1 (carried (carries_luma (kind_of s)) _ (λ e. again_even Luma (sound.0 e)), carried (carries_chroma (kind_of s)) _ (λ e. again_even Chroma (sound.1 e)))

  -- nor for its counts, which came from 32 bits
  pub small_counts : ((carries_luma (kind_of s) && count_large luma_sizes) || (carries_chroma (kind_of s) && count_large chroma_sizes)) ≡ false
  small_counts = (nor _ _).1 (carried (carries_luma (kind_of s)) _ (λ e. again_small Luma (sound.0 e)), carried (carries_chroma (kind_of s)) _ (λ e. again_small Chroma (sound.1 e)))

  module _ (t : Standard s) where
    first_number : u32_bytes (info_of (kind_of s) (size_for (kind_of s) (given_in s Luma))) ≡ take 4 s
    first_number = ap (λ (x : ℕ). u32_bytes (info_of (kind_of s) x)) (sym t.size_is) ∙ ap u32_bytes (info_parts (u32_at s 0) head.1) ∙ head.0

    streams : (is : Bool) (w : Which) → (is ≡ true → Sound (parts_of s w)) → cond {A = List ℕ} is (bytes_of (parts_given (given_in s w))) [] ≡ cond is (bytes_of (parts_of s w)) []
    streams true w f = ap bytes_of (again w (f refl))
    streams false w f = refl

    pub rewritten : payload_of (kind_of s) (given_in s Luma) (given_in s Chroma) ≡ s
    unfolding payload_of
    rewritten = (λ i. first_number i ++ (streams (carries_luma (kind_of s)) Luma sound.0 i ++ streams (carries_chroma (kind_of s)) Chroma sound.1 i)) ∙ covered s head.1 zero_number

    -- and nothing of it is refused, in an output that has room for it
    pub rewritten_accepted : (n : ℕ) → length s ≤ n → given_number_of (kind_of s) (given_in s Luma) (given_in s Chroma) n ≡ 0
    rewritten_accepted n room =
        (write_0_exactly _ _ _ n).1 (record {
          known = known_kind;
          even = even_lists;
          short = (nor _ _).1 (lt-leb _ _ t.short, small_counts);
          room = let e = payload_long (kind_of s) (given_in s Luma) (given_in s Chroma) in let f = ap length rewritten in omega arith;
        })
