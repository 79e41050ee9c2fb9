-- What a row writer reads lies in the view's row: below one column limit both halves of a shared row are there. Assumes nothing.
use Prim.Native.Nat.{ℕ, ◌+◌, ◌*◌, ◌-◌, ◌/◌, ◌<◌, ◌≤◌}
use native.Mathlib.Omega.{arith}
use Rattle.layout.specs.Exists.{v2_odds_below_of, v2_evens_below_of}

-- the row starts at `start` and is `stride` bytes long; V's half starts `half` bytes after U's
module _ (start stride m wide half stop : ℕ) (row : start + stride ≤ m) (narrow : wide ≤ stride) (some : 0 < stop) where
  pub odds_seen : stop ≤ 2 * (wide - half) → start + half + stop / 2 ≤ m
  odds_seen below = omega arith

  pub evens_seen : stop ≤ 4 * (wide - half) → start + half + (stop / 2 + 1) / 2 ≤ m
  evens_seen below = omega arith

-- V2, by any W: where both samples of odd columns exist, so do those of even columns
pub odds_below_evens : (W vw : ℕ) → v2_odds_below_of W vw ≤ v2_evens_below_of W vw
odds_below_evens W vw = omega arith
