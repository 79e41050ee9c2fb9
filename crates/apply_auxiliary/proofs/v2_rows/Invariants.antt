use Prim.Native.Nat.{◌-◌, ◌%◌}
use mathlib.Core.Path.{◌≡◌}
use Rattle.picture.specs.Sizes.{stride_of, rows_of}
use Rattle.layout.specs.declared.Chroma.TheVariants.{CU, CV}
use Rattle.layout.specs.declared.Layout.TheVariants.{V2}
use Rattle.apply_auxiliary_rows.specs.Rows.{auxiliary_source}
use Rattle.apply_auxiliary.proofs.Taken.{AreaRows}
use Rattle.apply_auxiliary.proofs.v2_rows.Given as goal

abbrev pub invariant-loop-row : goal.invariant-loop-row
invariant-loop-row l =
    (l.row % 2 ≡ 0)
    × AreaRows (V2 l.wide) l.frame.sizes l.area (stride_of l.size) (rows_of l.size) (auxiliary_source (V2 l.wide) CU l.frame.sizes l.frame.y.now l.frame.u.now l.frame.v.now) l.initial.u l.u l.row
    × AreaRows (V2 l.wide) l.frame.sizes l.area (stride_of l.size) (rows_of l.size) (auxiliary_source (V2 l.wide) CV l.frame.sizes l.frame.y.now l.frame.u.now l.frame.v.now) l.initial.v l.v l.row

abbrev pub decreases-loop-row : goal.decreases-loop-row
decreases-loop-row l = l.area.bottom - l.row
