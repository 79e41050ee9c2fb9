-- `apply_auxiliary::v2_rows` meets its contract. The invariant: `row` is even, and each plane is painted by what the area takes in the rows
-- below it. So the row after it is in the area, too.
-- Assumes nothing.
use Prim.Native.Nat.{ℕ, ◌+◌, ◌<◌}
use native.Mathlib.Omega.{arith}
use Rattle.apply_auxiliary.proofs.Taken.{area_rows_none, area_rows_two, area_rows_all}
use Rattle.apply_auxiliary.proofs.v2_rows.Goals as goal

pub loop-row-init : goal.loop-row-init
loop-row-init c = (omega arith, area_rows_none _ _ _ _ _ _ _, area_rows_none _ _ _ _ _ _ _)

pub loop-row-preserved : goal.loop-row-preserved
loop-row-preserved c =
    let a = c.args in
    let row : ℕ = c.loop-row.row in
    let more : row + 1 < a.area.bottom = omega (arith, c.requires.top_value.1) in (
      omega arith,
      area_rows_two _ _ _ _ _ _ _ row c.loop-row.invariant.1 more (c.v2_even_row.ensures.u a.frame.u.now a.frame.v.now) c.v2_row.ensures.u,
      area_rows_two _ _ _ _ _ _ _ row c.loop-row.invariant.2 more (c.v2_even_row.ensures.v a.frame.u.now a.frame.v.now) c.v2_row.ensures.v,
    )

-- after the last turn
pub returns-2 : goal.returns-2
returns-2 c =
    let a = c.args in
    let row : ℕ = c.loop-row.row in
    let more : row + 1 < a.area.bottom = omega (arith, c.requires.top_value.1) in
    record {
      u = area_rows_all _ _ _ _ _ _ _ (row + 2) (area_rows_two _ _ _ _ _ _ _ row c.loop-row.invariant.1 more (c.v2_even_row.ensures.u a.frame.u.now a.frame.v.now) c.v2_row.ensures.u) (omega arith);
      v = area_rows_all _ _ _ _ _ _ _ (row + 2) (area_rows_two _ _ _ _ _ _ _ row c.loop-row.invariant.2 more (c.v2_even_row.ensures.v a.frame.u.now a.frame.v.now) c.v2_row.ensures.v) (omega arith);
    }

pub returns : goal.returns
returns c =
    record {
      u = area_rows_all _ _ _ _ _ _ _ c.loop-row.row c.loop-row.invariant.1 c.loop-row-test.false;
      v = area_rows_all _ _ _ _ _ _ _ c.loop-row.row c.loop-row.invariant.2 c.loop-row-test.false;
    }
