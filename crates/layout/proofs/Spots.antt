-- The maps, case by case. Assumes nothing.
use Prim.Native.Nat.{ℕ, ◌+◌, ◌*◌, ◌/◌, ◌%◌, ◌<◌}
use mathlib.Core.Path.{◌≡◌, refl}
use mathlib.Core.Bool.{cond}
use lib.Dec.{eqb}
use Rattle.layout.specs.Maps.{PY, PU, PV, place, spot, part_of, shift, upper_of, to_v1, to_v2, from_v2}
use Rattle.layout.specs.declared.Chroma.{Chroma}
use Rattle.layout.proofs.Halves.{half_at}
use Rattle.layout.proofs.Exists.{odd_test, even_test}

-- ---- where a sample lives

module _ (k : Chroma) (r c : ℕ) where
  pub v1_odd_spot : r % 2 ≡ 1 → to_v1 k r c ≡ spot PY (upper_of r + shift k 8) c
  v1_odd_spot h = rw (odd_test r h)

  pub v1_even_spot : r % 2 ≡ 0 → to_v1 k r c ≡ spot (part_of k) (r / 2) (c / 2)
  v1_even_spot h = rw (even_test r h)

  pub v2_odd_spot : (W : ℕ) → c % 2 ≡ 1 → to_v2 W k r c ≡ spot PY r (shift k (W / 2) + c / 2)
  v2_odd_spot W h = rw (odd_test c h)

  pub v2_even_spot : (W : ℕ) → c % 2 ≡ 0 → to_v2 W k r c ≡ spot (cond (eqb (c % 4) 0) PU PV) (r / 2) (shift k (W / 4) + c / 4)
  v2_even_spot W h = rw (even_test c h)

-- ---- whose sample a spot holds

place_path : {k m : Chroma} {r c d : ℕ} → k ≡ m → c ≡ d → place k r c ≡ place m r d
place_path {r = r} p q = λ i. place (p i) r (q i)

-- V2, j places into the half of k
module _ (W : ℕ) (k : Chroma) (r j : ℕ) where
  pub v2_luma_place : j < W / 2 → from_v2 W PY r (shift k (W / 2) + j) ≡ place k r (2 * j + 1)
  v2_luma_place h = let half = half_at k (W / 2) j refl h in place_path half.0 (rw half.1)
