-- `lent::fill` meets its contract. The invariant: the bytes before the loop's place are painted with the value.
-- Assumes nothing.
use native.Mathlib.Omega.{arith}
use mathlib.Core.Path.{refl}
use Rattle.lent.proofs.SoFar.{so_far_none, so_far_more, so_far_all}
use Rattle.lent.proofs.fill.Goals as goal

pub loop-b-init : goal.loop-b-init
loop-b-init c = so_far_none _ _

pub loop-b-preserved : goal.loop-b-preserved
loop-b-preserved c = so_far_more _ _ c.loop-b.b-index c.loop-b.invariant (omega arith) refl

pub returns : goal.returns
returns c = so_far_all _ _ c.loop-b.b-index c.loop-b.invariant (omega arith)
