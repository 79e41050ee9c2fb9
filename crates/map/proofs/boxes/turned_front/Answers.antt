-- `map::boxes::turned_front` meets its contract. The invariant: the first i bytes are those of src, turned.
-- Assumes nothing.
use native.Mathlib.Omega.{arith}
use Rattle.lent.proofs.SoFar.{so_far_none, so_far_more}
use Rattle.map.proofs.boxes.turned_front.Goals as goal

pub loop-i-init : goal.loop-i-init
loop-i-init c = so_far_none _ _

pub loop-i-preserved : goal.loop-i-preserved
loop-i-preserved c = so_far_more _ _ c.loop-i.i c.loop-i.invariant (omega arith) c.turned.ensures
