-- `from_rgba::rows::forward_16` meets its contract. The invariant: in each array the first i samples are the first i colours' converted.
-- Assumes nothing.
use native.Mathlib.Omega.{arith}
use mathlib.Core.Path.{ap}
use Rattle.colour.specs.declared.Yuv.{Yuv}
use Rattle.lent.proofs.SoFar.{so_far_none, so_far_more, so_far_all}
use Rattle.from_rgba.proofs.rows.forward_16.Goals as goal

pub loop-i-init : goal.loop-i-init
loop-i-init c = (so_far_none _ _, so_far_none _ _, so_far_none _ _)

pub loop-i-preserved : goal.loop-i-preserved
loop-i-preserved c =
    let p = c.forward_by-c.ensures in (
      so_far_more _ _ c.loop-i.i c.loop-i.invariant.0 (omega arith) (ap (λ (q : Yuv). q.y) p),
      so_far_more _ _ c.loop-i.i c.loop-i.invariant.1 (omega arith) (ap (λ (q : Yuv). q.u) p),
      so_far_more _ _ c.loop-i.i c.loop-i.invariant.2 (omega arith) (ap (λ (q : Yuv). q.v) p),
    )

pub returns : goal.returns
returns c =
    record {
      y = so_far_all _ _ c.loop-i.i c.loop-i.invariant.0 (omega arith);
      u = so_far_all _ _ c.loop-i.i c.loop-i.invariant.1 (omega arith);
      v = so_far_all _ _ c.loop-i.i c.loop-i.invariant.2 (omega arith);
    }
