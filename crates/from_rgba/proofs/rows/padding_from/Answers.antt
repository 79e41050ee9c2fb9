-- `from_rgba::rows::padding_from` meets its contract: one test, by its two answers.
-- Assumes nothing.
use mathlib.Core.Path.{sym}
use borrow.Author.Tests.{lt-ltb, le-ltb}
use Rattle.lent.proofs.Bools.{cond-true, cond-false}
use Rattle.from_rgba.proofs.rows.padding_from.Goals as goal

pub returns-then-row-height : goal.returns-then-row-height
returns-then-row-height c = sym (cond-true _ _ _ (lt-ltb _ _ c.if-row-height.true))

pub returns : goal.returns
returns c = sym (cond-false _ _ _ (le-ltb _ _ c.if-row-height.false))
