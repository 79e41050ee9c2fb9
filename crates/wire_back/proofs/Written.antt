-- What is written is a payload of the format, and is read as what was given.
-- Assumes nothing.
use Prim.Native.Nat.{ℕ, zero, suc, ◌+◌, ◌/◌, ◌^◌, ◌≤◌, ◌<◌}
use native.Mathlib.Omega.{arith}
use mathlib.Core.Path.{◌≡◌, refl, sym, ap, subst, ◌∙◌}
use mathlib.Core.Bool.{false, true≢false, false≢true}
use mathlib.Core.List.{List, [], ◌∷◌, ◌++◌, append_assoc, append-nil}
use lib.Dec.{eqb}
use lib.ListN.{length, take, drop, length-append}
use borrow.Author.Tests.{eq-eqb, ne_eqb}
use Rattle.lent.specs.declared.Answer.{Answer}
use Rattle.lent.proofs.Bools.{cond-true, cond-false}
use Rattle.lent.proofs.Exactly.{nor}
use Rattle.wire_fields.specs.Fields.{u32_at, u32_bytes, kind_in, size_in, info_of}
use Rattle.wire_fields.proofs.Fields.{kind_back, size_back}
use Rattle.wire_fields.proofs.Bytes.{u32_long, u32_back}
use Rattle.wire_read.specs.declared.Avc444.{Avc444}
use Rattle.wire_read.specs.Reading.{kind_of, first_size_of, no_stream, refused_with, read_of}
use Rattle.wire_read.specs.Format.{bytes_of, Sound, places_at, Payload}
use Rattle.wire_read.specs.Format.Payload.{both, luma, chroma}
use Rattle.wire_read.proofs.Format.{format_read}
use Rattle.wire_read.specs.Parts.{parts_at}
use Rattle.wire_read.proofs.Covered.{parts_back}
use Rattle.wire_write.proofs.Stream.{number_bytes_long, stream_long_lem}
use Rattle.wire_write.specs.Number.{uneven}
use Rattle.wire_write.proofs.Exactly.{even_exactly}
use Rattle.wire_write.proofs.NumberLaws.{Writable, write_0_exactly, size_small, luma_count_small, chroma_count_small}
use Rattle.wire_write.specs.Writing.{Given, sizes_given, parts_given, size_for, payload_of, given_number_of, WriteOutcome}
use Rattle.wire_write.proofs.Ends.{number_is, written, counted, count_fits}
use Rattle.wire_back.specs.Back.{Back, WriteReadOutcome}

-- ---- the parts of a stream

-- a list in fours with a pair for each, whose count fits, makes a stream of the format
sound_given : (g : Given) → uneven (sizes_given g) ≡ false → length g.rects / 4 < 2 ^ 32 → Sound (parts_given g)
sound_given g e small =
    let fits = (even_exactly (sizes_given g)).0 e in
    let many = u32_back (length g.rects / 4) small in
    let long = number_bytes_long g.rects in
    record { four = u32_long (length g.rects / 4); rects_fit = omega arith; pairs_fit = omega arith }

-- ---- the first number

abbrev head : ℕ → Given → List ℕ
head kind l = u32_bytes (info_of kind (size_for kind l))

module _ (kind : ℕ) (l : Given) where
  first_number : u32_at (head kind l) 0 ≡ info_of kind (size_for kind l)
  first_number = u32_back (info_of kind (size_for kind l)) (omega arith)

  head_kind : kind < 4 → kind_of (head kind l) ≡ kind
  head_kind h = ap kind_in first_number ∙ kind_back kind (size_for kind l) h

  head_size : size_for kind l < 2 ^ 30 → first_size_of (head kind l) ≡ size_for kind l
  head_size h = ap size_in first_number ∙ size_back kind (size_for kind l) h

-- ---- each kind

module _ (l c : Given) (n : ℕ) where
  module _ (w : Writable 0 (sizes_given l) (sizes_given c) n) where
    both_even : (uneven (sizes_given l) ≡ false) × (uneven (sizes_given c) ≡ false)
    both_even = (nor _ _).0 w.even

    both_luma : Sound (parts_given l)
    both_luma = sound_given l both_even.0 (luma_count_small 0 (sizes_given l) (sizes_given c) n w refl)

    both_chroma : Sound (parts_given c)
    both_chroma = sound_given c both_even.1 (chroma_count_small 0 (sizes_given l) (sizes_given c) n w refl)

    pub both_format : Payload (payload_of 0 l c) (record { number = 0; kind = 0; luma = places_at 4 (parts_given l); chroma = places_at (4 + length (bytes_of (parts_given l))) (parts_given c) })
    unfolding payload_of
    both_format =
        both (head 0 l) (parts_given l) (parts_given c) (u32_long _) (head_kind 0 l (omega arith))
        (head_size 0 l (size_small 0 (sizes_given l) (sizes_given c) n w) ∙ sym (stream_long_lem l.rects l.pairs l.h264))
        both_luma both_chroma

  module _ (w : Writable 1 (sizes_given l) (sizes_given c) n) where
    luma_sound : Sound (parts_given l)
    luma_sound = sound_given l ((nor _ _).0 w.even).0 (luma_count_small 1 (sizes_given l) (sizes_given c) n w refl)

    luma_all : payload_of 1 l c ≡ head 1 l ++ bytes_of (parts_given l)
    unfolding payload_of
    luma_all = ap (λ (x : List ℕ). head 1 l ++ x) (append-nil (bytes_of (parts_given l)))

    luma_format : Payload (head 1 l ++ bytes_of (parts_given l)) (record { number = 0; kind = 1; luma = places_at 4 (parts_given l); chroma = no_stream })
    luma_format =
        let long = stream_long_lem l.rects l.pairs l.h264 in
        let size = head_size 1 l (size_small 1 (sizes_given l) (sizes_given c) n w) in
        luma (head 1 l) (parts_given l) (u32_long _) (head_kind 1 l (omega arith)) (omega arith) luma_sound

  module _ (w : Writable 2 (sizes_given l) (sizes_given c) n) where
    chroma_sound : Sound (parts_given c)
    chroma_sound = sound_given c w.even (chroma_count_small 2 (sizes_given l) (sizes_given c) n w refl)

    chroma_format : Payload (payload_of 2 l c) (record { number = 0; kind = 2; luma = no_stream; chroma = places_at 4 (parts_given c) })
    unfolding payload_of
    chroma_format =
        let size = head_size 2 l (size_small 2 (sizes_given l) (sizes_given c) n w) in
        chroma (head 2 l) (parts_given c) (u32_long _) (head_kind 2 l (omega arith)) (omega arith) chroma_sound

-- ---- what was written is read as what was given, whatever stands behind it

module _ (l c : Given) (n : ℕ) (rest : List ℕ) where
  both_back : Writable 0 (sizes_given l) (sizes_given c) n → Back (payload_of 0 l c ++ rest) (read_of (payload_of 0 l c)) 0 l c
  unfolding payload_of
  both_back w =
      let h = head 0 l in
      let x = bytes_of (parts_given l) in
      let y = bytes_of (parts_given c) in
      subst (λ (a : Avc444). Back ((h ++ (x ++ y)) ++ rest) a 0 l c) (sym (format_read _ _ (both_format l c n w))) (record {
        accepted = refl;
        kind_back = refl;
        luma_back = λ t. ap (λ (s : List ℕ). parts_at s (places_at 4 (parts_given l))) (append_assoc h (x ++ y) rest ∙ ap (λ (s : List ℕ). h ++ s) (append_assoc x y rest))
            ∙ parts_back h (y ++ rest) (parts_given l) 4 (both_luma l c n w) (u32_long _);
        chroma_back = λ t. ap (λ (s : List ℕ). parts_at s (places_at (4 + length x) (parts_given c)))
            (ap (λ (s : List ℕ). s ++ rest) (sym (append_assoc h x y)) ∙ append_assoc (h ++ x) y rest)
            ∙ parts_back (h ++ x) rest (parts_given c) (4 + length x) (both_chroma l c n w) (omega (arith, length-append h x, u32_long (info_of 0 (size_for 0 l))));
        no_luma = λ t. absurd (true≢false t);
        no_chroma = λ t. absurd (true≢false t);
      })

  luma_back : Writable 1 (sizes_given l) (sizes_given c) n → Back (payload_of 1 l c ++ rest) (read_of (payload_of 1 l c)) 1 l c
  luma_back w =
      let h = head 1 l in
      let x = bytes_of (parts_given l) in
      let is = luma_all l c n w in
      subst (λ (s : List ℕ). Back (s ++ rest) (read_of s) 1 l c) (sym is)
      (subst (λ (a : Avc444). Back ((h ++ x) ++ rest) a 1 l c) (sym (format_read _ _ (luma_format l c n w))) (record {
        accepted = refl;
        kind_back = refl;
        luma_back = λ t. ap (λ (s : List ℕ). parts_at s (places_at 4 (parts_given l))) (append_assoc h x rest) ∙ parts_back h rest (parts_given l) 4 (luma_sound l c n w) (u32_long _);
        chroma_back = λ t. absurd (false≢true t);
        no_luma = λ t. absurd (true≢false t);
        no_chroma = λ t. refl;
      }))

  chroma_back : Writable 2 (sizes_given l) (sizes_given c) n → Back (payload_of 2 l c ++ rest) (read_of (payload_of 2 l c)) 2 l c
  unfolding payload_of
  chroma_back w =
      let h = head 2 l in
      let y = bytes_of (parts_given c) in
      subst (λ (a : Avc444). Back ((h ++ y) ++ rest) a 2 l c) (sym (format_read _ _ (chroma_format l c n w))) (record {
        accepted = refl;
        kind_back = refl;
        luma_back = λ t. absurd (false≢true t);
        chroma_back = λ t. ap (λ (s : List ℕ). parts_at s (places_at 4 (parts_given c))) (append_assoc h y rest) ∙ parts_back h rest (parts_given c) 4 (chroma_sound l c n w) (u32_long _);
        no_luma = λ t. refl;
        no_chroma = λ t. absurd (true≢false t);
      })

pub written_read : (kind : ℕ) (l c : Given) (n : ℕ) → given_number_of kind l c n ≡ 0 → (rest : List ℕ) → Back (payload_of kind l c ++ rest) (read_of (payload_of kind l c)) kind l c
written_read kind l c n zero_number rest = go kind ((write_0_exactly kind (sizes_given l) (sizes_given c) n).0 zero_number)
  where
    go : (k : ℕ) → Writable k (sizes_given l) (sizes_given c) n → Back (payload_of k l c ++ rest) (read_of (payload_of k l c)) k l c
    go zero w = both_back l c n rest w
    go (suc zero) w = luma_back l c n rest w
    go (suc (suc zero)) w = chroma_back l c n rest w
    go (suc (suc (suc k))) w = absurd (omega (arith, w.known))

-- ---- a call that writes and reads

module _ (kind : ℕ) (l c : Given) (out : List ℕ) {w : Answer} {after : List ℕ} (o : WriteOutcome kind l c out w (after ∷ [])) where
  pub refused_ends : {r : Avc444} → (w.number ≡ 0 → ⊥) → r ≡ refused_with w.number → WriteReadOutcome kind l c out r after
  refused_ends {r} some e =
      let n = given_number_of kind l c (length out) in
      let some_number : n ≡ 0 → ⊥ = λ z. some (number_is kind l c out o ∙ z) in
      record {
        ends = record {
          answer = e ∙ ap refused_with (number_is kind l c out o) ∙ sym (cond-false (eqb n 0) (read_of (payload_of kind l c)) (refused_with n) (ne_eqb n 0 some_number));
          buffers = o.buffers;
        };
        back = λ z. absurd (some_number z);
      }

  module _ (none : w.number ≡ 0) where
    zero_number : given_number_of kind l c (length out) ≡ 0
    zero_number = sym (number_is kind l c out o) ∙ none

    pub fits : w.count ≤ length after
    fits = count_fits kind l c out o zero_number

    pub read_ends : {r : Avc444} → r ≡ read_of (take w.count after) → WriteReadOutcome kind l c out r after
    read_ends {r} e =
        let n = given_number_of kind l c (length out) in
        let is : r ≡ read_of (payload_of kind l c) = e ∙ ap read_of (counted kind l c out o zero_number) in
        record {
          ends = record {
            answer = is ∙ sym (cond-true (eqb n 0) (read_of (payload_of kind l c)) (refused_with n) (eq-eqb n 0 zero_number));
            buffers = o.buffers;
          };
          back = λ z. subst (λ (s : List ℕ). Back s r kind l c) (sym (written kind l c out o zero_number))
              (subst (λ (a : Avc444). Back (payload_of kind l c ++ drop (length (payload_of kind l c)) out) a kind l c) (sym is) (written_read kind l c (length out) zero_number _));
        }

-- the one way in which it ends
pub write_read_unique : (kind : ℕ) (l c : Given) (out : List ℕ) (r q : Avc444) (x y : List ℕ) → WriteReadOutcome kind l c out r x → WriteReadOutcome kind l c out q y → (r ≡ q) × (x ≡ y)
write_read_unique kind l c out r q x y a b = let e = a.ends.buffers in let f = b.ends.buffers in (a.ends.answer ∙ sym b.ends.answer, cc)
