-- `apply_auxiliary::auxiliary_rects` meets its contract. The invariant: each plane is painted by what the first i rectangles take.
-- Assumes nothing.
use native.Mathlib.Omega.{arith}
use Rattle.rects.proofs.Rects.{rects_none, rects_more}
use Rattle.apply_auxiliary.specs.Auxiliary.{auxiliary_rule}
use Rattle.apply_auxiliary.proofs.auxiliary_rects.Goals as goal

pub loop-i-init : goal.loop-i-init
loop-i-init c = (rects_none _ _ (auxiliary_rule _ _ _) _ _ _, rects_none _ _ (auxiliary_rule _ _ _) _ _ _)

pub loop-i-preserved : goal.loop-i-preserved
loop-i-preserved c = (
  rects_more _ _ (auxiliary_rule _ _ _) _ _ _ c.loop-i.i _ c.loop-i.invariant.0 (omega arith) c.rect_at-rect.ensures c.auxiliary_rect.ensures.u,
  rects_more _ _ (auxiliary_rule _ _ _) _ _ _ c.loop-i.i _ c.loop-i.invariant.1 (omega arith) c.rect_at-rect.ensures c.auxiliary_rect.ensures.v,
)
