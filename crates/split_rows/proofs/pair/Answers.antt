-- `split_rows::pair` meets its contract. The invariant: the pairs below i are made.
-- Assumes nothing.
use native.Mathlib.Omega.{arith}
use Rattle.lent.proofs.SoFar.{so_far_none, so_far_more}
use Rattle.split_rows.specs.Pairs.{pair_of}
use Rattle.split_rows.proofs.pair.Goals as goal

pub loop-i-init : goal.loop-i-init
loop-i-init c = so_far_none _ _

pub loop-i-preserved : goal.loop-i-preserved
unfolding pair_of
loop-i-preserved c = so_far_more _ _ c.loop-i.i c.loop-i.invariant (omega arith) (omega arith)
