-- One block of bytes: x is its even-even sample before the average, p, q and r are the others. Undone, the average is x but for what the
-- division dropped, at most 1 below and 2 above; where that is less than 30 away from the average, the average is kept, and is no further from x
-- than both together.
-- Assumes nothing.
use mathlib.Core.Path.{◌≡◌}
use mathlib.Core.Bool.{true}
use mathlib.Core.Logic.{⊎_elim}
use mathlib.Core.List.{List, [], ◌∷◌}
use Prim.Native.Nat.{ℕ, ◌+◌, ◌*◌, ◌-◌, ◌/◌, ◌≤◌, ◌<◌, min}
use native.Mathlib.Omega.{arith}
use lib.ListN.{get_or}
use Rattle.colour.specs.Colour.{filtered_of, filter_of, average_of, applied_in}
use Rattle.colour.proofs.Filtering.{kept_or_undone, applied_exactly}
use Rattle.off.specs.Off.{below, above, applied_below, applied_above}

-- a block whose first sample became the average
abbrev pub averaged_block : List ℕ → List ℕ
averaged_block s = average_of s ∷ get_or s 1 0 ∷ get_or s 2 0 ∷ get_or s 3 0 ∷ []

module _ (x p q r : ℕ) (hx : x < 256) (hp : p < 256) (hq : q < 256) (hr : r < 256) where
  abbrev mean : ℕ
  mean = (x + p + q + r + 2) / 4

  abbrev others : ℕ
  others = p + q + r

  abbrev back : ℕ
  back = min (4 * mean - others) 255

  pub answer_low : x ≤ filter_of (averaged_block (x ∷ p ∷ q ∷ r ∷ [])) + below
  answer_low = ⊎_elim (λ k. omega (arith, k.0, k.1)) (λ u. omega (arith, u)) (kept_or_undone mean others)

  pub answer_high : filter_of (averaged_block (x ∷ p ∷ q ∷ r ∷ [])) ≤ x + above
  answer_high = ⊎_elim (λ k. omega (arith, k.0, k.1)) (λ u. omega (arith, u)) (kept_or_undone mean others)

  module _ (applied : applied_in (averaged_block (x ∷ p ∷ q ∷ r ∷ [])) ≡ true) where
    undone : filtered_of mean others ≡ back
    undone = ⊎_elim (λ k. absurd ((applied_exactly mean others).0 applied k.0)) (λ u. u) (kept_or_undone mean others)

    pub applied_low : x ≤ filter_of (averaged_block (x ∷ p ∷ q ∷ r ∷ [])) + applied_below
    applied_low = omega (arith, undone)

    pub applied_high : filter_of (averaged_block (x ∷ p ∷ q ∷ r ∷ [])) ≤ x + applied_above
    applied_high = omega (arith, undone)

-- a block of one colour comes back as it was
pub alike_own : (x : ℕ) → x < 256 → filter_of (averaged_block (x ∷ x ∷ x ∷ x ∷ [])) ≡ x
alike_own x hx = ⊎_elim (λ k. omega (arith, k.0)) (λ u. omega (arith, u)) (kept_or_undone ((x + x + x + x + 2) / 4) (x + x + x))
