-- `apply_main::luma_rows` meets its contract. The invariant: the plane is painted by what the area takes in the rows below `row`.
-- Assumes nothing.
use Rattle.apply_main.proofs.RectRows.{box_rows_none, box_rows_more, box_rows_all}
use Rattle.apply_main.proofs.luma_rows.Goals as goal

pub loop-row-init : goal.loop-row-init
loop-row-init c = box_rows_none _ _ _ _ _ _

pub loop-row-preserved : goal.loop-row-preserved
loop-row-preserved c = box_rows_more _ _ _ _ _ _ c.loop-row.row c.loop-row.invariant c.loop-row-test.true c.luma_row.ensures

pub shape_of-y : goal.shape_of-y
shape_of-y c = c.loop-row.invariant.1

pub returns : goal.returns
returns c = box_rows_all _ _ _ _ _ _ c.loop-row.row c.loop-row.invariant c.loop-row-test.false
