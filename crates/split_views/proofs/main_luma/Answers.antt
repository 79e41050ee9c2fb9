-- `split_views::main_luma` meets its contract. The invariant: the rows below `row` are copied.
-- Assumes nothing.
use native.Mathlib.Omega.{arith}
use mathlib.Core.Path.{refl, ◌∙◌}
use Rattle.lent.proofs.Rows.{whole_none, whole_more, whole_all}
use Rattle.split_views.proofs.main_luma.Goals as goal

pub loop-row-init : goal.loop-row-init
loop-row-init c = whole_none _ _ _ _

pub loop-row-preserved : goal.loop-row-preserved
loop-row-preserved c =
    whole_more c.args.wide c.args.rows _ c.args.out.now c.loop-row.row (omega arith) c.requires.wide_in_bounds c.loop-row.invariant c.copy_wide.ensures refl

pub returns : goal.returns
returns c = c.loop-row.invariant ∙ whole_all _ _ _ _ c.loop-row.row (omega arith)
