-- `split_views::half_plane` meets its contract. The invariant: the rows below `row` are written.
-- Assumes nothing.
use Prim.Native.Nat.{◌*◌, ◌/◌}
use native.Mathlib.Omega.{arith}
use mathlib.Core.Path.{refl, ◌∙◌}
use Rattle.lent.proofs.Cells.{row_in}
use Rattle.lent.proofs.Rows.{whole_none, whole_more, whole_all}
use Rattle.split_views.proofs.half_plane.Goals as goal

pub loop-row-init : goal.loop-row-init
loop-row-init c = whole_none _ _ _ _

pub picked_wide-requires-clause-wide_fits : goal.picked_wide-requires-clause-wide_fits
picked_wide-requires-clause-wide_fits c =
    let a = c.args in
    record {
      even = omega (arith, c.requires.macroblocks_fit.wide);
      room = omega (arith, c.requires.macroblocks_fit.wide, c.requires.stride_le_wide);
      reach = omega (arith, row_in a.stride a.rows (2 * c.loop-row.row) (omega arith), c.requires.macroblocks_fit.fits);
    }

pub loop-row-preserved : goal.loop-row-preserved
loop-row-preserved c =
    whole_more (c.args.wide / 2) (c.args.rows / 2) _ c.args.out.now c.loop-row.row (omega arith) c.requires.wide_in_bounds c.loop-row.invariant c.picked_wide.ensures refl

pub returns : goal.returns
returns c = c.loop-row.invariant ∙ whole_all _ _ _ _ c.loop-row.row (omega arith)
