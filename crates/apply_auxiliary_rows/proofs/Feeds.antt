-- V2, by any W: which columns of a kind are fed, as facts. One column bounds each kind. Assumes nothing.
use Prim.Native.Nat.{ℕ, ◌/◌, ◌%◌, ◌<◌}
use mathlib.Core.Path.{◌≡◌}
use mathlib.Core.Bool.{true, ◌&&◌}
use Rattle.lent.specs.Sizes.{half_up}
use Rattle.lent.proofs.Bools.{both, both_left, both_right}
use Rattle.view.specs.declared.View.{View}
use Rattle.layout.specs.declared.Layout.TheVariants.{V2}
use Rattle.layout.specs.Exists.{fed, v2_odds_below_of, v2_evens_below_of}
use Rattle.layout.proofs.Pairs.{v2_odd_facts, v2_odd_holds, v2_even_facts, v2_even_holds}
use Rattle.columns.specs.Turns.{odd, even}
use Rattle.columns.proofs.Turns.{odd-true, is_odd, even-true, is_even}

module _ (W : ℕ) (w : View) (r c : ℕ) where
  pub v2_odds_facts : (fed (V2 W) w.width w.height r c && odd c) ≡ true → (c % 2 ≡ 1) × (r < w.height) × (c < v2_odds_below_of W w.width)
  v2_odds_facts e =
      let o = odd-true c (both_right (fed (V2 W) w.width w.height r c) (odd c) e) in
      let f = v2_odd_facts W w.width w.height r c o (both_left (fed (V2 W) w.width w.height r c) (odd c) e) in
      (o, f.0, f.1)

  pub v2_odds_holds : c % 2 ≡ 1 → r < w.height → c < v2_odds_below_of W w.width → (fed (V2 W) w.width w.height r c && odd c) ≡ true
  v2_odds_holds o p q = both _ _ (v2_odd_holds W w.width w.height r c o p q) (is_odd c o)

  pub v2_evens_facts : (fed (V2 W) w.width w.height r c && even c) ≡ true → (c % 2 ≡ 0) × (r % 2 ≡ 1) × (r / 2 < half_up w.height) × (c < v2_evens_below_of W w.width)
  v2_evens_facts e =
      let z = even-true c (both_right (fed (V2 W) w.width w.height r c) (even c) e) in
      let f = v2_even_facts W w.width w.height r c z (both_left (fed (V2 W) w.width w.height r c) (even c) e) in
      (z, f.0, f.1, f.2)

  pub v2_evens_holds : c % 2 ≡ 0 → r % 2 ≡ 1 → r / 2 < half_up w.height → c < v2_evens_below_of W w.width → (fed (V2 W) w.width w.height r c && even c) ≡ true
  v2_evens_holds z o p q = both _ _ (v2_even_holds W w.width w.height r c z o p q) (is_even c z)
