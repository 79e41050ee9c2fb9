-- `lent::copy_by` meets its contract: both ends are read into arrays before one is written, and the last one starts in the first or where it
-- ends (`copied_by_ends`).
-- Assumes nothing.
use native.Mathlib.Omega.{arith}
use Rattle.lent.proofs.ByEnds.{copied_by_ends}
use Rattle.lent.proofs.copy_by.Goals as goal

pub returns : goal.returns
returns g c =
    let a = c.args in
    copied_by_ends a.dst.now a.src.now _ _ g.row.N (omega arith) (omega arith) (omega arith) (omega arith) (omega arith)
    c.copy_front.ensures c.copy_front-2.ensures c.copy_front-3.ensures c.copy_front-4.ensures
