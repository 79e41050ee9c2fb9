-- Where the parts of a stream lie, and how the calls end.
-- Assumes nothing.
use Prim.Native.Nat.{ℕ, ◌*◌, ◌≤◌, ◌<◌}
use mathlib.Core.Path.{◌≡◌, refl, sym, ap, subst, ◌∙◌}
use mathlib.Core.Bool.{not}
use mathlib.Core.List.{List}
use lib.Dec.{eqb}
use lib.ListN.{length}
use borrow.Author.Tests.{lt-ltb, le-ltb, eq-eqb, ne_eqb}
use Rattle.lent.proofs.Bools.{cond-true}
use Rattle.wire_read.specs.declared.Stream.{Stream}
use Rattle.wire_read.specs.declared.Avc444.{Avc444}
use Rattle.wire_read.specs.Reading.{read_number_of, read_of, PartsInside}
use Rattle.wire_read.proofs.Exactly.{answer_number, read_inside}
use Rattle.wire_read.specs.declared.parts.Which.{Which}
use Rattle.wire_read.specs.declared.parts.Which.TheVariants.{Luma, Chroma}
use Rattle.wire_read.specs.Parts.{stream_of, places_of, here_in, copy_number_of}

pub inside : (s : List ℕ) (w : Which) → PartsInside (places_of s w) (length s)
inside s Luma = (read_inside s).0
inside s Chroma = (read_inside s).1

-- the number and the stream that are taken out of what was read
pub taken : (s : List ℕ) (w v : Which) (a : Avc444) → a ≡ read_of s → w ≡ v → (record { number = a.number; places = stream_of v a } ≡ here_in s w) × PartsInside (stream_of v a) (length s)
taken s w v a is e =
    let number_is = ap (λ (x : Avc444). x.number) is ∙ answer_number s in
    let places-are : stream_of v a ≡ places_of s w = (λ i. stream_of (sym e i) (is i)) in
    (λ i. record { number = number_is i; places = places-are i }, subst (λ (x : Stream). PartsInside x (length s)) (sym places-are) (inside s w))

-- the number of the copy
module _ (s : List ℕ) (w : Which) (n : ℕ) where
  pub copy_first : {m : ℕ} → m ≡ read_number_of s → (m ≡ 0 → ⊥) → m ≡ copy_number_of s w n
  unfolding copy_number_of
  copy_first e some = e ∙ sym (cond-true (not (eqb (read_number_of s) 0)) _ _ (ap not (ne_eqb (read_number_of s) 0 (λ z. some (e ∙ z)))))

  pub copy_6 : read_number_of s ≡ 0 → n < 4 * (places_of s w).count → copy_number_of s w n ≡ 6
  unfolding copy_number_of
  copy_6 e h = simp (eq-eqb (read_number_of s) 0 e, lt-ltb n (4 * (places_of s w).count) h) refl

  pub copy_0 : read_number_of s ≡ 0 → 4 * (places_of s w).count ≤ n → copy_number_of s w n ≡ 0
  unfolding copy_number_of
  copy_0 e h = simp (eq-eqb (read_number_of s) 0 e, le-ltb n (4 * (places_of s w).count) h) refl
