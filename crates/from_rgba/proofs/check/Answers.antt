-- `from_rgba::check` meets its contract: two tests, in their order.
-- Assumes nothing.
use mathlib.Core.Path.{sym, ◌∙◌}
use Rattle.lent.proofs.Bools.{cond-true, cond-false}
use Rattle.from_rgba.proofs.check.Goals as goal

pub returns-then-rgba_short : goal.returns-then-rgba_short
returns-then-rgba_short c = sym (cond-true _ _ _ (sym c.rgba_short.ensures ∙ c.if-rgba_short.true))

pub returns-then-planes_short : goal.returns-then-planes_short
returns-then-planes_short c =
    let no-2 = sym c.rgba_short.ensures ∙ c.if-rgba_short.false in
    sym (cond-false _ _ _ no-2 ∙ cond-true _ _ _ (sym c.planes_short.ensures ∙ c.if-planes_short.true))

pub returns : goal.returns
returns c =
    let no-2 = sym c.rgba_short.ensures ∙ c.if-rgba_short.false in
    sym (cond-false _ _ _ no-2 ∙ cond-false _ _ _ (sym c.planes_short.ensures ∙ c.if-planes_short.false))
