-- `apply_main::chroma_rows` meets its contract. The invariant: whatever plane the rows before the loop's first were written in, the plane is that
-- one, painted by what the area takes in the rows below `row`.
-- Assumes nothing.
use native.Mathlib.Omega.{arith}
use mathlib.Core.Path.{refl}
use Rattle.apply_main.proofs.RectRows.{box_rows_more, box_rows_all}
use Rattle.apply_main.proofs.chroma_rows.Goals as goal

pub loop-row-init : goal.loop-row-init
loop-row-init c = (refl, λ xs before. before)

pub loop-row-preserved : goal.loop-row-preserved
loop-row-preserved c = (omega arith, λ xs before. box_rows_more _ _ _ _ _ xs c.loop-row.row (c.loop-row.invariant.1 xs before) c.loop-row-test.true c.chroma_row.ensures)

pub returns : goal.returns
returns c = box_rows_all _ _ _ _ _ _ c.loop-row.row (c.loop-row.invariant.1 _ (c.chroma_twos-next.ensures.lower_bound, c.chroma_twos-next.auto.plane, c.chroma_twos-next.ensures.plane_after)) c.loop-row-test.false
