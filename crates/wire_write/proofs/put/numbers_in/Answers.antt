-- `wire_write::put::numbers_in` meets its contract. The invariant: the first i numbers are painted.
-- Assumes nothing.
use native.Mathlib.Omega.{arith}
use mathlib.Core.Path.{◌≡◌, refl}
use lib.ListN.{length}
use Rattle.lent.proofs.SoFar.{so_far_none, so_far_more}
use Rattle.wire_write.proofs.put.numbers_in.Goals as goal

pub loop-i-init : goal.loop-i-init
loop-i-init c = so_far_none _ _

pub loop-i-preserved : goal.loop-i-preserved
loop-i-preserved c = so_far_more _ _ c.loop-i.i c.loop-i.invariant (omega arith) refl

pub returns : goal.returns
returns c =
    let done : c.loop-i.i ≡ length c.args.numbers.now = omega arith in
    rw done at c.loop-i.invariant.1
