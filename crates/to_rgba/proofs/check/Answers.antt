-- `to_rgba::check` meets its contract: the first test that holds gives the number.
-- Assumes nothing.
use borrow.Author.Tests.{lt-ltb, le-ltb}
use mathlib.Core.Path.{sym}
use Rattle.to_rgba.specs.Picture.{to_rgba_number_of}
use Rattle.to_rgba.proofs.check.Goals as goal

pub returns-then-planes_short : goal.returns-then-planes_short
unfolding to_rgba_number_of
returns-then-planes_short c = simp (sym c.planes_short.ensures, c.if-planes_short.true)

pub returns-then-nout-count : goal.returns-then-nout-count
unfolding to_rgba_number_of
returns-then-nout-count c = simp (sym c.planes_short.ensures, c.if-planes_short.false, lt-ltb _ _ c.if-nout-count.true)

pub returns : goal.returns
unfolding to_rgba_number_of
returns c = simp (sym c.planes_short.ensures, c.if-planes_short.false, le-ltb _ _ c.if-nout-count.false)
