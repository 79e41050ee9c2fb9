-- `check_rows::taken_right` meets its contract. The invariant: the columns below `at` are right.
-- Assumes nothing.
use Prim.Native.Nat.{◌+◌}
use native.Mathlib.Omega.{arith}
use mathlib.Core.Path.{refl}
use Rattle.check_rows.specs.Rows.{step_of, first_of}
use Rattle.check_rows.proofs.Rows.{taken_part}
use Rattle.check_rows.proofs.Samples.{first_below}
use Rattle.check_rows.proofs.taken_right.Goals as goal

pub loop-at-preserved : goal.loop-at-preserved
loop-at-preserved g c =
    let a = c.args in
    let by = c.step-by.ensures in
    (by, refl, omega arith, taken_part a.row.now a.src.now c.loop-at.at (c.loop-at.at + g.row.N) (omega arith) (omega arith) (step_of a.taken) (first_of a.taken) (first_below a.taken) c.loop-at.invariant.3 g.row.N (omega arith) (rw by at (c.taken_apart.ensures.0 c.if-taken_apart-ne0.false)))
