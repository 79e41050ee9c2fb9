use Rattle.picture.specs.Sizes.{stride_of, rows_of}
use Rattle.apply_main.specs.Main.{main_chroma, halved}
use Rattle.rects.proofs.Rects.{RectsDone}
use Rattle.apply_main.proofs.chroma_rects.Given as goal

abbrev pub invariant-loop-i : goal.invariant-loop-i
invariant-loop-i l = RectsDone (stride_of l.size) (rows_of l.size) (main_chroma l.size l.w) l.rects (halved l.samples l.w.chroma_stride) l.initial.plane l.count l.plane l.i
