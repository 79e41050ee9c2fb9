use Rattle.picture.specs.Sizes.{stride_of, rows_of}
use Rattle.layout.specs.declared.Chroma.TheVariants.{CU, CV}
use Rattle.layout.specs.declared.Layout.TheVariants.{V1}
use Rattle.apply_auxiliary_rows.specs.Rows.{auxiliary_source}
use Rattle.apply_auxiliary.proofs.Taken.{AreaRows}
use Rattle.apply_auxiliary.proofs.v1_rows.Given as goal

abbrev pub invariant-loop-row : goal.invariant-loop-row
invariant-loop-row l =
    AreaRows V1 l.frame.sizes l.area (stride_of l.size) (rows_of l.size) (auxiliary_source V1 CU l.frame.sizes l.frame.y.now l.frame.u.now l.frame.v.now) l.initial.u l.u l.row
    × AreaRows V1 l.frame.sizes l.area (stride_of l.size) (rows_of l.size) (auxiliary_source V1 CV l.frame.sizes l.frame.y.now l.frame.u.now l.frame.v.now) l.initial.v l.v l.row
