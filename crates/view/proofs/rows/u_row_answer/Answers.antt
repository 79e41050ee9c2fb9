-- `view::rows::u_row_answer` meets its contract: the view's number and the plane's sizes, handed to `row_answer`.
-- Assumes nothing.
use Rattle.view.proofs.Exactly.{u_fits}
use Rattle.view.proofs.RowLaws.{row_asks, answer_is}
use Rattle.view.proofs.rows.u_row_answer.Goals as goal

pub row_answer-requires : goal.row_answer-requires
row_answer-requires c = row_asks c.check.ensures c.chroma.ensures _ (u_fits _ _ _ _)

pub returns : goal.returns
returns c = answer_is c.check.ensures c.chroma.ensures _ _ c.row_answer.ensures
