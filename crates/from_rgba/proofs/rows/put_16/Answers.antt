-- `from_rgba::rows::put_16` meets its contract. The invariant: the first i bytes are painted from the array.
-- Assumes nothing.
use native.Mathlib.Omega.{arith}
use mathlib.Core.Path.{refl}
use Rattle.lent.proofs.SoFar.{so_far_none, so_far_more, so_far_all}
use Rattle.from_rgba.proofs.rows.put_16.Goals as goal

pub loop-i-init : goal.loop-i-init
loop-i-init c = so_far_none _ _

pub loop-i-preserved : goal.loop-i-preserved
loop-i-preserved c = so_far_more _ _ c.loop-i.i c.loop-i.invariant (omega arith) refl

pub returns : goal.returns
returns c = so_far_all _ _ c.loop-i.i c.loop-i.invariant (omega arith)
