use Prim.Native.Nat.{◌/◌}
use lib.ListN.{length}
use Rattle.picture.specs.Sizes.{stride_of, rows_of}
use Rattle.layout.specs.declared.Chroma.TheVariants.{CU, CV}
use Rattle.rects.proofs.Rects.{RectsDone}
use Rattle.apply_auxiliary_rows.specs.Rows.{auxiliary_source}
use Rattle.apply_auxiliary.specs.Auxiliary.{auxiliary_rule}
use Rattle.apply_auxiliary.proofs.auxiliary_rects.Given as goal

abbrev pub invariant-loop-i : goal.invariant-loop-i
invariant-loop-i l =
    RectsDone (stride_of l.size) (rows_of l.size) (auxiliary_rule l.layout l.size l.frame.sizes) l.rects (auxiliary_source l.layout CU l.frame.sizes l.frame.y.now l.frame.u.now l.frame.v.now) l.initial.u (length l.rects / 4) l.u l.i
    × RectsDone (stride_of l.size) (rows_of l.size) (auxiliary_rule l.layout l.size l.frame.sizes) l.rects (auxiliary_source l.layout CV l.frame.sizes l.frame.y.now l.frame.u.now l.frame.v.now) l.initial.v (length l.rects / 4) l.v l.i
