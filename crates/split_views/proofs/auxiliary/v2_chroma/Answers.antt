-- `split_views::auxiliary::v2_chroma` meets its contract. The invariant: the rows below `row` are written.
-- Assumes nothing.
use Prim.Native.Nat.{◌+◌, ◌*◌, ◌/◌}
use native.Mathlib.Omega.{arith}
use mathlib.Core.Path.{refl, ◌∙◌}
use Rattle.lent.proofs.Cells.{row_in}
use Rattle.lent.proofs.Rows.{whole_none, whole_more, whole_all}
use Rattle.split_views.proofs.auxiliary.v2_chroma.Goals as goal

pub loop-row-init : goal.loop-row-init
loop-row-init c = whole_none _ _ _ _

pub v2_chroma_row-requires-clause-stride_in_bounds : goal.v2_chroma_row-requires-clause-stride_in_bounds
v2_chroma_row-requires-clause-stride_in_bounds c =
    let a = c.args in
    omega (arith, row_in a.stride a.rows (2 * c.loop-row.row + 1) (omega (arith, c.requires.macroblocks_fit.high)), c.requires.macroblocks_fit.fits)

pub v2_chroma_row-requires-clause-stride_in_bounds_2 : goal.v2_chroma_row-requires-clause-stride_in_bounds_2
v2_chroma_row-requires-clause-stride_in_bounds_2 c =
    let a = c.args in
    omega (arith, row_in a.stride a.rows (2 * c.loop-row.row + 1) (omega (arith, c.requires.macroblocks_fit.high)), c.requires.macroblocks_fit_2.fits)

pub loop-row-preserved : goal.loop-row-preserved
loop-row-preserved c =
    whole_more (c.args.wide / 2) (c.args.rows / 2) _ c.args.out.now c.loop-row.row (omega arith) c.requires.wide_in_bounds c.loop-row.invariant c.v2_chroma_row.ensures refl

pub returns : goal.returns
returns c = c.loop-row.invariant ∙ whole_all _ _ _ _ c.loop-row.row (omega arith)
