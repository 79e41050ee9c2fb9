-- Tests as facts, "exactly when": a comparison, and a test of two tests. Assumes nothing.
use Prim.Native.Nat.{ℕ, ◌<◌, ◌≤◌}
use mathlib.Core.Path.{◌≡◌, refl}
use mathlib.Core.Bool.{Bool, true, false, ◌&&◌, ◌||◌, true≢false, false≢true}
use mathlib.Core.Logic.Iff
use mathlib.Core.Logic.{◌↔◌, ◌⊎◌, inl, inr, ⊎_elim}
use lib.Dec.{ltb}
use borrow.Author.Tests.{ltb-true, ltb-false, lt-ltb, le-ltb}
use Rattle.lent.proofs.Bools.{both, both_left, both_right, either, or_left, or_right}

pub below : (a b : ℕ) → (ltb a b ≡ true) ↔ (a < b)
below a b = (ltb-true a b, lt-ltb a b)

pub not-below : (a b : ℕ) → (ltb a b ≡ false) ↔ (b ≤ a)
not-below a b = (ltb-false a b, le-ltb a b)

-- a test of two tests holds where one of them does, and fails where both do
module _ (s t : Bool) {P Q : Type 0} where
  pub or_exactly : (s ≡ true) ↔ P → (t ≡ true) ↔ Q → ((s || t) ≡ true) ↔ (P ⊎ Q)
  or_exactly f g = (
    λ e. ⊎_elim (λ h. inl (f.0 h)) (λ h. inr (g.0 h)) (either s t e),
    ⊎_elim (λ h. or_left s t (f.1 h)) (λ h. or_right s t (g.1 h)),
  )

-- a test of both holds where both do
pub and_exactly : (s t : Bool) {P Q : Type 0} → (s ≡ true) ↔ P → (t ≡ true) ↔ Q → ((s && t) ≡ true) ↔ (P × Q)
and_exactly s t f g = (λ e. (f.0 (both_left s t e), g.0 (both_right s t e)), λ h. both s t (f.1 h.0) (g.1 h.1))

pub nor : (s t : Bool) → ((s || t) ≡ false) ↔ ((s ≡ false) × (t ≡ false))
nor true t = (λ e. absurd (true≢false e), λ h. h.0)
nor false t = (λ e. (refl, e), λ h. h.1)

pub nor_exactly : (s t : Bool) {P Q : Type 0} → (s ≡ false) ↔ P → (t ≡ false) ↔ Q → ((s || t) ≡ false) ↔ (P × Q)
nor_exactly s t f g = Iff.trans (nor s t) (Iff.and f g)

-- a test of both fails where, if the first one holds, the second fails
pub nand_exactly : (s t : Bool) {P : Type 0} → (t ≡ false) ↔ P → ((s && t) ≡ false) ↔ (s ≡ true → P)
nand_exactly true t f = (λ e h. f.0 e, λ g. f.1 (g refl))
nand_exactly false t f = (λ e h. absurd (false≢true h), λ g. refl)
