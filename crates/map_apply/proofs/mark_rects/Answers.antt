-- `map_apply::mark_rects` meets its contract. The invariant: the map is painted by what the first i rectangles take.
-- Assumes nothing.
use native.Mathlib.Omega.{arith}
use Rattle.rects.proofs.Rects.{rects_none, rects_more, rects_all}
use Rattle.map_apply.specs.Boxes.{in_blocks}
use Rattle.map_apply.proofs.mark_rects.Goals as goal

pub loop-i-init : goal.loop-i-init
loop-i-init c = rects_none _ _ (in_blocks _ _) _ _ _

pub loop-i-preserved : goal.loop-i-preserved
loop-i-preserved c = rects_more _ _ (in_blocks _ _) _ _ _ c.loop-i.i _ c.loop-i.invariant (omega arith) c.rect_at.ensures c.mark_rect.ensures

pub shape_of-map : goal.shape_of-map
shape_of-map c = c.loop-i.invariant.2

pub returns : goal.returns
returns c = rects_all _ _ (in_blocks _ _) _ _ _ c.loop-i.i c.loop-i.invariant (omega arith)
