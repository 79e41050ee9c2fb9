-- `view::rows::v_row` meets its contract: the view's number and the plane's sizes, handed to `row_part`.
-- Assumes nothing.
use Rattle.view.proofs.Exactly.{v_fits}
use Rattle.view.proofs.RowLaws.{row_asks, row_is}
use Rattle.view.proofs.rows.v_row.Goals as goal

pub row_part-requires : goal.row_part-requires
row_part-requires c = row_asks c.check.ensures c.chroma.ensures _ (v_fits _ _ _ _)

pub returns : goal.returns
returns c = row_is c.check.ensures c.chroma.ensures _ _ _ c.row_part.ensures
