-- `apply_auxiliary::v1_rows` meets its contract. The invariant: each plane is painted by what the area takes in the rows below `row`.
-- Assumes nothing.
use Rattle.apply_auxiliary.proofs.Taken.{area_rows_none, area_rows_more, area_rows_all}
use Rattle.apply_auxiliary.proofs.v1_rows.Goals as goal

pub loop-row-init : goal.loop-row-init
loop-row-init c = (area_rows_none _ _ _ _ _ _ _, area_rows_none _ _ _ _ _ _ _)

pub loop-row-preserved : goal.loop-row-preserved
loop-row-preserved c = (
  area_rows_more _ _ _ _ _ _ _ c.loop-row.row c.loop-row.invariant.0 c.loop-row-test.true c.v1_row.ensures.u,
  area_rows_more _ _ _ _ _ _ _ c.loop-row.row c.loop-row.invariant.1 c.loop-row-test.true c.v1_row.ensures.v,
)

pub returns : goal.returns
returns c =
    record {
      u = area_rows_all _ _ _ _ _ _ _ c.loop-row.row c.loop-row.invariant.0 c.loop-row-test.false;
      v = area_rows_all _ _ _ _ _ _ _ c.loop-row.row c.loop-row.invariant.1 c.loop-row-test.false;
    }
