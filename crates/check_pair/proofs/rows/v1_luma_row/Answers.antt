-- `check_pair::rows::v1_luma_row` meets its contract: of a macroblock's rows the first 8 are odd rows of U, the others odd rows of V.
-- Assumes nothing.
use mathlib.Core.Path.{◌∙◌}
use Rattle.check_pair.proofs.Lines.{wrong_same, v1_first, v1_last}
use Rattle.check_pair.proofs.rows.v1_luma_row.Goals as goal

pub returns-then-within-lt8 : goal.returns-then-within-lt8
returns-then-within-lt8 c =
    let a = c.args in
    c.copied_row.ensures ∙ wrong_same a.row.now _ _ (λ k h. v1_first a.from.stride a.from.u.now a.from.v.now a.line k c.if-within-lt8.true)

pub returns-else-within-lt8 : goal.returns-else-within-lt8
returns-else-within-lt8 c =
    let a = c.args in
    c.copied_row-else-within-lt8.ensures ∙ wrong_same a.row.now _ _ (λ k h. v1_last a.from.stride a.from.u.now a.from.v.now a.line k c.if-within-lt8.false)
