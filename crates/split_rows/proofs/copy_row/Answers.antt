-- `split_rows::copy_row` meets its contract: a row that was copied holds the samples of the plane.
-- Assumes nothing.
use mathlib.Core.Path.{◌∙◌}
use Rattle.split_rows.proofs.Rows.{row_copied}
use Rattle.split_rows.proofs.copy_row.Goals as goal

pub returns : goal.returns
returns c =
    let a = c.args in
    c.copy.ensures ∙ row_copied a.plane.now a.stride a.row a.out.now c.requires.exact c.requires.reach
