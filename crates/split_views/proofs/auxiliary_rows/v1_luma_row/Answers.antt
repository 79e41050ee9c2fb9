-- `split_views::auxiliary_rows::v1_luma_row` meets its contract: of a macroblock's rows the first 8 are odd rows of U, the others odd rows of V, each within the
-- macroblock.
-- Assumes nothing.
use native.Mathlib.Omega.{arith}
use mathlib.Core.Path.{refl, ◌∙◌}
use Rattle.lent.specs.Paint.{every}
use Rattle.lent.proofs.Paint.{paint_ext}
use Rattle.split_views.proofs.Spots.{v1_u_row, v1_v_row}
use Rattle.split_views.proofs.auxiliary_rows.v1_luma_row.Goals as goal

pub returns-then-within-lt8 : goal.returns-then-within-lt8
returns-then-within-lt8 c =
    let a = c.args in
    c.copy_row.ensures ∙ paint_ext every every _ _ a.out.now (λ k h. refl) (λ k h e. v1_u_row a.stride a.u.now a.v.now a.row k (omega arith) (omega arith))

pub returns-else-within-lt8 : goal.returns-else-within-lt8
returns-else-within-lt8 c =
    let a = c.args in
    c.copy_row-else-within-lt8.ensures ∙ paint_ext every every _ _ a.out.now (λ k h. refl) (λ k h e. v1_v_row a.stride a.u.now a.v.now a.row k (omega arith) (omega arith))
