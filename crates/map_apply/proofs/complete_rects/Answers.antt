-- `map_apply::complete_rects` meets its contract. The invariant: the map is painted, from what it was before all, by what the first i
-- rectangles take; a block that one of them turned is not 1 any more, so that another one leaves it.
-- Assumes nothing.
use native.Mathlib.Omega.{arith}
use mathlib.Core.Path.{◌∙◌}
use Rattle.rects.proofs.Rects.{rects_none, rects_more, rects_all}
use Rattle.map.specs.Map.{across_of, down_of}
use Rattle.map.proofs.Turned.{turned_source}
use Rattle.map_apply.specs.Boxes.{in_blocks}
use Rattle.map_apply.proofs.complete_rects.Goals as goal

pub loop-i-init : goal.loop-i-init
loop-i-init c = rects_none _ _ (in_blocks _ _) _ _ _

pub loop-i-preserved : goal.loop-i-preserved
loop-i-preserved c =
    let a = c.args in
    rects_more _ _ (in_blocks _ _) _ _ _ c.loop-i.i _ c.loop-i.invariant (omega arith) c.rect_at.ensures (c.complete_rect.ensures
    ∙ turned_source (across_of a.size) (down_of a.size) _ _ a.map.now _ c.requires c.loop-i.invariant.3)

pub shape_of-map : goal.shape_of-map
shape_of-map c = c.loop-i.invariant.2

pub returns : goal.returns
returns c = rects_all _ _ (in_blocks _ _) _ _ _ c.loop-i.i c.loop-i.invariant (omega arith)
