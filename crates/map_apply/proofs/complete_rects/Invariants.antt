use Rattle.rects.proofs.Rects.{RectsDone}
use Rattle.map.specs.Map.{across_of, down_of, turned_at}
use Rattle.map_apply.specs.Boxes.{in_blocks}
use Rattle.map_apply.proofs.complete_rects.Given as goal

abbrev pub invariant-loop-i : goal.invariant-loop-i
invariant-loop-i l = RectsDone (across_of l.size) (down_of l.size) (in_blocks l.size l.limits) l.rects (turned_at l.initial.map (across_of l.size)) l.initial.map l.count l.map l.i
