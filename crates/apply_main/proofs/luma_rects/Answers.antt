-- `apply_main::luma_rects` meets its contract. The invariant: the plane is painted by what the first i rectangles take.
-- Assumes nothing.
use native.Mathlib.Omega.{arith}
use Rattle.apply_main.specs.Main.{main_luma}
use Rattle.rects.proofs.Rects.{rects_none, rects_more, rects_all}
use Rattle.apply_main.proofs.luma_rects.Goals as goal

pub loop-i-init : goal.loop-i-init
loop-i-init c = rects_none _ _ (main_luma _ _) _ _ _

pub loop-i-preserved : goal.loop-i-preserved
loop-i-preserved c = rects_more _ _ (main_luma _ _) _ _ _ c.loop-i.i _ c.loop-i.invariant (omega arith) c.rect_at.ensures c.luma_rect.ensures

pub shape_of-y : goal.shape_of-y
shape_of-y c = c.loop-i.invariant.2

pub returns : goal.returns
returns c = rects_all _ _ (main_luma _ _) _ _ _ c.loop-i.i c.loop-i.invariant (omega arith)
