-- `view::row_start` meets its contract. The product does not wrap: a row that exists ends in the plane, which has len bytes.
-- Assumes nothing.
use native.Mathlib.Omega.{arith}
use mathlib.Core.Path.{sym}
use Rattle.lent.proofs.Cells.{row_in}
use Rattle.view.proofs.Starts.{row_start_holds, row_start_none}
use Rattle.view.proofs.row_start.Goals as goal

pub overflow_mul-result : goal.overflow_mul-result
overflow_mul-result c = record { fits = omega (arith, row_in c.args.stride _ _ c.if-row-rows.true) }

pub returns-then-row-rows : goal.returns-then-row-rows
returns-then-row-rows c = sym (row_start_holds _ _ _ c.if-row-rows.true)

pub returns-else-row-rows : goal.returns-else-row-rows
returns-else-row-rows c = sym (row_start_none _ _ _ c.if-row-rows.false)
