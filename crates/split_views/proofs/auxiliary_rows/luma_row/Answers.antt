-- `split_views::auxiliary_rows::luma_row` meets its contract: each layout has its function.
-- Assumes nothing.
use Prim.Native.Nat.{ℕ}
use mathlib.Core.Path.{ap, ◌∙◌}
use Rattle.lent.specs.Paint.{paint, every}
use Rattle.layout.specs.Maps.{PY, view_wide_of}
use Rattle.layout.specs.declared.Layout.{Layout}
use Rattle.layout.specs.declared.Layout.TheVariants.{V2}
use Rattle.split_views.specs.Views.{auxiliary_sample}
use Rattle.split_views.proofs.Spots.{row_fits}
use Rattle.split_views.proofs.auxiliary_rows.luma_row.Goals as goal

pub v2_luma_row-requires-clause-stride_in_bounds : goal.v2_luma_row-requires-clause-stride_in_bounds
v2_luma_row-requires-clause-stride_in_bounds c = row_fits _ c.args.stride c.args.row c.requires.block_fits

pub v2_luma_row-requires-clause-stride_in_bounds_2 : goal.v2_luma_row-requires-clause-stride_in_bounds_2
v2_luma_row-requires-clause-stride_in_bounds_2 c = row_fits _ c.args.stride c.args.row c.requires.block_fits_2

pub returns-in-V2 : goal.returns-in-V2
returns-in-V2 c =
    let told = c.in-V2.is in
    let a = c.args in
    let wide = c.requires.wide_value ∙ ap (λ (t : Layout). view_wide_of t a.stride) told in
    rw told (c.v2_luma_row.ensures ∙ ap (λ (w : ℕ). paint every (auxiliary_sample (V2 w) a.stride a.u.now a.v.now PY a.row) a.out.now) wide)
