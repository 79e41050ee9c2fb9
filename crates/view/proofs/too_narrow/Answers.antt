-- `view::too_narrow` meets its contract: the first test decides where it holds, the second where it does not.
-- Assumes nothing.
use mathlib.Core.Path.{sym}
use borrow.Author.Tests.{lt-ltb, le-ltb}
use Rattle.lent.proofs.Bools.{or_left}
use Rattle.view.specs.View.{narrow}
use Rattle.view.proofs.too_narrow.Goals as goal

pub returns-then-w : goal.returns-then-w
unfolding narrow
returns-then-w c = sym (or_left _ _ (lt-ltb _ _ c.if-w.true))

pub returns : goal.returns
unfolding narrow
returns c = simp (le-ltb _ _ c.if-w.false, c.half_up.ensures)
