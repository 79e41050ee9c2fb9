-- `check_rows::filled_right_8` meets its contract. The invariant: the columns below `at` are `fill`.
-- Assumes nothing.
use Prim.Native.Nat.{◌+◌}
use native.Mathlib.Omega.{arith}
use mathlib.Core.Path.{refl}
use lib.ListN.{get_or-replicate}
use Rattle.check_rows.proofs.Rows.{right_part}
use Rattle.check_rows.proofs.filled_right_8.Goals as goal

pub loop-at-preserved : goal.loop-at-preserved
loop-at-preserved c =
    let a = c.args in
    (refl, omega arith, right_part a.row.now (λ k. a.fill) _ c.loop-at.at (c.loop-at.at + 8) (omega arith) (omega arith) (λ j h. get_or-replicate 8 j a.fill 0 (omega arith)) c.loop-at.invariant.2 8 (omega arith) (c.apart.ensures.0 c.if-apart-ne0.false))
