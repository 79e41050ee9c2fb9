-- `rects::check` meets its contract: each return is the first test that held, and the view's own number is the rest of the list.
-- Assumes nothing.
use borrow.Author.Tests.{eq-eqb, ne_eqb}
use mathlib.Core.Path.{sym}
use Rattle.view.specs.View.{view_number_of}
use Rattle.view.proofs.Over.{lies_over}
use Rattle.rects.specs.Number.{apply_number_of}
use Rattle.rects.proofs.check.Goals as goal

pub returns-then-planes_short-clause-number : goal.returns-then-planes_short-clause-number
unfolding apply_number_of
returns-then-planes_short-clause-number c = simp (sym c.planes_short.ensures, c.if-planes_short.true)

pub returns-then-nr-ne0-clause-number : goal.returns-then-nr-ne0-clause-number
unfolding apply_number_of
returns-then-nr-ne0-clause-number c = simp (sym c.planes_short.ensures, c.if-planes_short.false, ne_eqb _ _ c.if-nr-ne0.true)

pub returns-clause-number : goal.returns-clause-number
unfolding apply_number_of view_number_of
returns-clause-number c = simp (sym c.planes_short.ensures, c.if-planes_short.false, eq-eqb _ _ c.if-nr-ne0.false, c.new.ensures.number)

pub returns-clause-over : goal.returns-clause-over
returns-clause-over c = lies_over _ _ _ _ _ c.new.ensures.same
