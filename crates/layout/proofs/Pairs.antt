-- Both samples of a pair exist: one limit for the columns of each kind, below vw or 2 * half_up vw (V1), below `v2_odds_below_of` or
-- `v2_evens_below_of` (V2), beside what is asked of the row. Assumes nothing.
use Prim.Native.Nat.{ℕ, ◌+◌, ◌*◌, ◌/◌, ◌%◌, ◌<◌}
use native.Mathlib.Omega.{arith}
use mathlib.Core.Path.{◌≡◌}
use mathlib.Core.Bool.{true, ◌&&◌}
use mathlib.Core.Logic.{⊎_elim}
use Rattle.lent.specs.Sizes.{half_up}
use Rattle.lent.proofs.Bools.{both, both_left, both_right}
use Rattle.layout.specs.Maps.{place, upper_of, to_v1, to_v2, maps}
use Rattle.layout.specs.Exists.{present, left_out, fed, v2_odds_below_of, v2_evens_below_of}
use Rattle.layout.specs.declared.Chroma.TheVariants.{CU, CV}
use Rattle.layout.specs.declared.Layout.{Layout}
use Rattle.layout.specs.declared.Layout.TheVariants.{V1, V2}
use Rattle.layout.proofs.Exists.{odd_test, even_test, left_out_facts, left_out_row, left_out_col, present_facts, present_holds, side_turn}

module _ (t : Layout) (vw vh r c : ℕ) where
  pub fed_facts : fed t vw vh r c ≡ true → (left_out r c ≡ true) × (present vw vh ((maps t).spot (place CU r c)) ≡ true) × (present vw vh ((maps t).spot (place CV r c)) ≡ true)
  unfolding fed
  fed_facts e =
      let b = both_left (left_out r c && present vw vh ((maps t).spot (place CU r c))) _ e in
      (both_left (left_out r c) _ b, both_right (left_out r c) _ b, both_right (left_out r c && present vw vh ((maps t).spot (place CU r c))) _ e)

  pub fed_holds : left_out r c ≡ true → present vw vh ((maps t).spot (place CU r c)) ≡ true → present vw vh ((maps t).spot (place CV r c)) ≡ true → fed t vw vh r c ≡ true
  unfolding fed
  fed_holds o p q = both (left_out r c && present vw vh ((maps t).spot (place CU r c))) _ (both (left_out r c) _ o p) q

module _ (vw vh r c : ℕ) where
  -- V1, an odd row: the second luma row exists, and so does the first
  pub v1_odd_facts : r % 2 ≡ 1 → fed V1 vw vh r c ≡ true → (upper_of r + 8 < vh) × (c < vw)
  v1_odd_facts h e = rw (odd_test r h) at (present_facts vw vh (to_v1 CV r c) (fed_facts V1 vw vh r c e).2)

  pub v1_odd_holds : r % 2 ≡ 1 → upper_of r + 8 < vh → c < vw → fed V1 vw vh r c ≡ true
  v1_odd_holds h p q =
      let t = odd_test r h in
      fed_holds V1 vw vh r c (left_out_row r c h)
      (present_holds vw vh (to_v1 CU r c) (rw t (omega arith)) (rw t q))
      (present_holds vw vh (to_v1 CV r c) (rw t p) (rw t q))

  -- V1, an even row
  pub v1_even_facts : r % 2 ≡ 0 → fed V1 vw vh r c ≡ true → (c % 2 ≡ 1) × (r / 2 < half_up vh) × (c < 2 * half_up vw)
  v1_even_facts h e =
      let f = fed_facts V1 vw vh r c e in
      let p = rw (even_test r h) at (present_facts vw vh (to_v1 CV r c) f.2) in
      (⊎_elim (λ o. omega arith) (λ o. o) (left_out_facts r c f.0), p.0, omega arith)

  pub v1_even_holds : r % 2 ≡ 0 → c % 2 ≡ 1 → r / 2 < half_up vh → c < 2 * half_up vw → fed V1 vw vh r c ≡ true
  v1_even_holds h o p q =
      let t = even_test r h in
      fed_holds V1 vw vh r c (left_out_col r c o)
      (present_holds vw vh (to_v1 CU r c) (rw t p) (rw t (omega arith)))
      (present_holds vw vh (to_v1 CV r c) (rw t p) (rw t (omega arith)))

module _ (W vw vh r c : ℕ) where
  -- V2, an odd column
  pub v2_odd_facts : c % 2 ≡ 1 → fed (V2 W) vw vh r c ≡ true → (r < vh) × (c < v2_odds_below_of W vw)
  v2_odd_facts h e =
      let p = rw (odd_test c h) at (present_facts vw vh (to_v2 W CV r c) (fed_facts (V2 W) vw vh r c e).2) in
      (p.0, omega arith)

  pub v2_odd_holds : c % 2 ≡ 1 → r < vh → c < v2_odds_below_of W vw → fed (V2 W) vw vh r c ≡ true
  v2_odd_holds h p q =
      let t = odd_test c h in
      fed_holds (V2 W) vw vh r c (left_out_col r c h)
      (present_holds vw vh (to_v2 W CU r c) (rw t p) (rw t (omega arith)))
      (present_holds vw vh (to_v2 W CV r c) (rw t p) (rw t (omega arith)))

  -- V2, an even column
  pub v2_even_facts : c % 2 ≡ 0 → fed (V2 W) vw vh r c ≡ true → (r % 2 ≡ 1) × (r / 2 < half_up vh) × (c < v2_evens_below_of W vw)
  v2_even_facts h e =
      let f = fed_facts (V2 W) vw vh r c e in
      let p = simp (even_test c h, side_turn) at (present_facts vw vh (to_v2 W CV r c) f.2) in
      (⊎_elim (λ o. o) (λ o. omega arith) (left_out_facts r c f.0), p.0, omega arith)

  pub v2_even_holds : c % 2 ≡ 0 → r % 2 ≡ 1 → r / 2 < half_up vh → c < v2_evens_below_of W vw → fed (V2 W) vw vh r c ≡ true
  v2_even_holds h o p q =
      let t = even_test c h in
      fed_holds (V2 W) vw vh r c (left_out_row r c o)
      (present_holds vw vh (to_v2 W CU r c) (rw (t, side_turn) p) (rw (t, side_turn) (omega arith)))
      (present_holds vw vh (to_v2 W CV r c) (rw (t, side_turn) p) (rw (t, side_turn) (omega arith)))
