-- A loop that writes each place of a row in turn: the first i places hold s, the others are as they were.
-- Assumes nothing.
use Prim.Native.Nat.{ℕ, ◌+◌, ◌<◌, ◌≤◌}
use native.Mathlib.Omega.{arith}
use mathlib.Core.Path.{◌≡◌, refl, ◌∙◌}
use mathlib.Core.List.{List}
use lib.Dec.{ltb}
use lib.ListN.{length, set, length-set}
use borrow.Author.Tests.{lt-ltb, le-ltb}
use Rattle.lent.specs.Paint.{paint, every}
use Rattle.lent.proofs.Paint.{paint_none, paint_next, paint_ext}

abbrev pub SoFar : (ℕ → ℕ) → List ℕ → List ℕ → ℕ → Type 0
SoFar s xs ys i = (length ys ≡ length xs) × (ys ≡ paint (λ k. ltb k i) s xs)

module _ (s : ℕ → ℕ) (xs : List ℕ) where
  pub so_far_none : SoFar s xs xs 0
  so_far_none = (refl, paint_none _ s xs (λ k h. le-ltb k 0 (omega arith)))

  pub so_far_more : {ys : List ℕ} {v : ℕ} (i : ℕ) → SoFar s xs ys i → i < length xs → v ≡ s i → SoFar s xs (set ys i v) (i + 1)
  so_far_more {ys} {v} i f h e = (length-set ys i v ∙ f.0, rw f.1 (paint_next s xs i v h e))

  pub so_far_all : {ys : List ℕ} (i : ℕ) → SoFar s xs ys i → length xs ≤ i → ys ≡ paint every s xs
  so_far_all i f end = f.1 ∙ paint_ext _ every s s xs (λ k h. lt-ltb k i (omega arith)) (λ k h e. refl)
