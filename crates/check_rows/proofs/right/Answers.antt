-- `check_rows::right` meets its contract. The invariant: the columns below `at` are right.
-- Assumes nothing.
use Prim.Native.Nat.{◌+◌}
use native.Mathlib.Omega.{arith}
use mathlib.Core.Path.{refl}
use Rattle.check_rows.proofs.Rows.{copied_part}
use Rattle.check_rows.proofs.right.Goals as goal

pub loop-at-preserved : goal.loop-at-preserved
loop-at-preserved g c =
    let a = c.args in
    (refl, omega arith, copied_part a.row.now a.src.now c.loop-at.at (c.loop-at.at + g.row.N) (omega arith) (omega arith) c.loop-at.invariant.2 g.row.N (omega arith) (c.apart.ensures.0 c.if-apart-ne0.false))
