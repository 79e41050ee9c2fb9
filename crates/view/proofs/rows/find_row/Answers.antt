-- `view::rows::find_row` meets its contract: a refused view has no row, an accepted one holds all of its plane's rows.
-- Assumes nothing.
use mathlib.Core.Path.{sym, ap, refl, ◌∙◌}
use Rattle.lent.specs.Refused.{number_in}
use Rattle.lent.proofs.Answered.{refused_above}
use Rattle.view.proofs.RowLaws.{find_row_accepted, find_row_refused}
use Rattle.view.proofs.rows.find_row.Goals as goal

pub row_start-requires : goal.row_start-requires
row_start-requires c = (c.requires (ap number_in c.in-Ok.is)).long

pub returns-in-Ok : goal.returns-in-Ok
returns-in-Ok c = c.row_start.ensures ∙ sym (find_row_accepted _ _ _ (ap number_in c.in-Ok.is))

pub returns-in-Err : goal.returns-in-Err
returns-in-Err c = sym (find_row_refused _ _ _ (refused_above refl c.in-Err.is))
