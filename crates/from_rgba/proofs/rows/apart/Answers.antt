-- `from_rgba::rows::apart` meets its contract. The invariant: each array has the first i pixels' byte.
-- Assumes nothing.
use native.Mathlib.Omega.{arith}
use Rattle.lent.proofs.SoFar.{so_far_none, so_far_more, so_far_all}
use Rattle.from_rgba.proofs.rows.apart.Goals as goal

pub loop-i-init : goal.loop-i-init
loop-i-init c = (so_far_none _ _, so_far_none _ _, so_far_none _ _)

pub loop-i-preserved : goal.loop-i-preserved
loop-i-preserved c =
    let w = c.four-w.ensures in (
      so_far_more _ _ c.loop-i.i c.loop-i.invariant.0 (omega arith) w.0,
      so_far_more _ _ c.loop-i.i c.loop-i.invariant.1 (omega arith) w.1,
      so_far_more _ _ c.loop-i.i c.loop-i.invariant.2 (omega arith) w.2,
    )

pub returns : goal.returns
returns c =
    record {
      r = so_far_all _ _ c.loop-i.i c.loop-i.invariant.0 (omega arith);
      g = so_far_all _ _ c.loop-i.i c.loop-i.invariant.1 (omega arith);
      b = so_far_all _ _ c.loop-i.i c.loop-i.invariant.2 (omega arith);
    }
