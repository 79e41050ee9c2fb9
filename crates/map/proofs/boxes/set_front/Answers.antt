-- `map::boxes::set_front` meets its contract. The invariant: the first i bytes are the value.
-- Assumes nothing.
use native.Mathlib.Omega.{arith}
use mathlib.Core.Path.{refl}
use Rattle.lent.proofs.SoFar.{so_far_none, so_far_more}
use Rattle.map.proofs.boxes.set_front.Goals as goal

pub loop-i-init : goal.loop-i-init
loop-i-init c = so_far_none _ _

pub loop-i-preserved : goal.loop-i-preserved
loop-i-preserved c = so_far_more _ _ c.loop-i.i c.loop-i.invariant (omega arith) refl
