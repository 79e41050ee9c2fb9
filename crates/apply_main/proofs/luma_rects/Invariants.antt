use Rattle.lent.specs.Samples.{sample}
use Rattle.picture.specs.Sizes.{stride_of, rows_of}
use Rattle.apply_main.specs.Main.{main_luma}
use Rattle.rects.proofs.Rects.{RectsDone}
use Rattle.apply_main.proofs.luma_rects.Given as goal

abbrev pub invariant-loop-i : goal.invariant-loop-i
invariant-loop-i l = RectsDone (stride_of l.size) (rows_of l.size) (main_luma l.size l.w) l.rects (sample l.vy l.w.luma_stride) l.initial.y l.count l.y l.i
