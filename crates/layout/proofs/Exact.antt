-- The rule Exact, of W that is not rounded: each place of a picture W wide is fed once where W is a multiple of 4, and nowhere else. Where it
-- is even and no multiple of 4, the last even column of U stands where V begins in a chroma row; where it is odd, the column past the picture
-- that its last block has stands where V begins in a luma row.
-- Assumes nothing.
use Prim.Native.Nat.{ℕ, ◌-◌, ◌%◌, ◌<◌}
use native.Mathlib.Omega.{arith}
use mathlib.Core.Path.{◌≡◌, refl, ap}
use mathlib.Core.Logic.{⊎_elim}
use Rattle.lent.specs.Sizes.{round_up}
use Rattle.layout.specs.Maps.{Place, place, maps_v2, maps, exact_layout_of}
use Rattle.layout.specs.Fed.{FedOnce, Clash}
use Rattle.layout.specs.declared.Chroma.TheVariants.{CU, CV}
use Rattle.layout.proofs.Exists.{parity, fours, odd_test, even_test, fourth_test, left_out_row, carried_holds}
use Rattle.layout.proofs.Fed.{spot_path, v2_fed, fed_once}

pub exact_once : (W H : ℕ) → W % 4 ≡ 0 → H % 2 ≡ 0 → FedOnce (maps (exact_layout_of W)) W H
exact_once W H w h = fed_once (maps_v2 W) W H (v2_fed W H w h)

planes_apart : (r c d : ℕ) → place CU r c ≡ place CV r d → ⊥
planes_apart r c d e = let planes : CU ≡ CV = ap (λ (l : Place). l.plane) e in let z : ◌≡◌ {A = ℕ} 0 1 = cc in omega arith

clash_even : (W H : ℕ) → 1 < H → W % 4 ≡ 2 → Clash (maps_v2 W) W H
clash_even W H h e = record {
  one = place CU 1 (W - 2);
  other = place CV 1 0;
  one_carried = carried_holds (round_up 2 W) H (place CU 1 (W - 2)) h (omega arith) (left_out_row 1 (W - 2) refl);
  other_carried = carried_holds (round_up 2 W) H (place CV 1 0) h (omega arith) refl;
  together = rw (even_test (W - 2) (omega arith), fourth_test (W - 2) (omega arith)) (spot_path refl (omega arith));
  apart = planes_apart 1 (W - 2) 0;
}

clash_odd : (W H : ℕ) → 1 < H → W % 2 ≡ 1 → Clash (maps_v2 W) W H
clash_odd W H h o = record {
  one = place CU 1 W;
  other = place CV 1 1;
  one_carried = carried_holds (round_up 2 W) H (place CU 1 W) h (omega arith) (left_out_row 1 W refl);
  other_carried = carried_holds (round_up 2 W) H (place CV 1 1) h (omega arith) refl;
  together = rw (odd_test W o) (spot_path refl (omega arith));
  apart = planes_apart 1 W 1;
}

pub exact_clash : (W H : ℕ) → 1 < H → (W % 4 ≡ 0 → ⊥) → Clash (maps (exact_layout_of W)) W H
exact_clash W H h n = ⊎_elim (clash_odd W H h) (λ z. ⊎_elim (λ f. absurd (n f)) (clash_even W H h) (fours W z)) (parity W)
