-- `view::rows::row_answer` meets its contract: each case of the start that was found has the values that `row_in` gives it.
-- Assumes nothing.
use mathlib.Core.Path.{sym, ap, ◌∙◌}
use Rattle.lent.specs.Refused.{number_in}
use Rattle.view.specs.Starts.{Values, values_of}
use Rattle.view.specs.Rows.{row_in}
use Rattle.view.proofs.rows.row_answer.Goals as goal

pub returns-in_default : goal.returns-in_default
returns-in_default c =
    let a = c.args in
    rw c.number-number.ensures (ap (λ (v : Values). row_in (number_in a.view) v a.p.width) (sym (ap values_of c.in_default.is) ∙ c.find_row.ensures))

pub returns : goal.returns
returns c =
    let a = c.args in
    rw c.number-number.ensures (ap (λ (v : Values). row_in (number_in a.view) v a.p.width) (sym (ap values_of c.in-Some.is) ∙ c.find_row.ensures))
