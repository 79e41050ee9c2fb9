-- `split_rows::bytes` meets its contract. The invariant: the first i bytes are painted.
-- Assumes nothing.
use native.Mathlib.Omega.{arith}
use Rattle.lent.proofs.SoFar.{so_far_none, so_far_more, so_far_all}
use Rattle.split_rows.proofs.bytes.Goals as goal

pub loop-i-init : goal.loop-i-init
loop-i-init g c = so_far_none _ _

pub loop-i-preserved : goal.loop-i-preserved
loop-i-preserved g c = so_far_more _ _ c.loop-i.i c.loop-i.invariant (omega arith) cc

pub returns : goal.returns
returns g c = so_far_all _ _ c.loop-i.i c.loop-i.invariant (omega arith)
