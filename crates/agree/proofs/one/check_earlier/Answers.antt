-- `agree::one::check_earlier` meets its contract: each return is the first test that held, and a short map is 1 as a short plane is.
-- Assumes nothing.
use borrow.Author.Tests.{eq-eqb, ne_eqb}
use mathlib.Core.Path.{sym}
use Rattle.map.specs.Map.{picture_short}
use Rattle.agree_law.specs.Through.{earlier_number_of}
use Rattle.agree.proofs.one.check_earlier.Goals as goal

pub returns-then-planes_short : goal.returns-then-planes_short
unfolding earlier_number_of picture_short
returns-then-planes_short c = simp (sym c.planes_short.ensures, c.if-planes_short.true)

pub returns-then-map_short : goal.returns-then-map_short
unfolding earlier_number_of picture_short
returns-then-map_short c = simp (sym c.planes_short.ensures, c.if-planes_short.false, sym c.map_short.ensures, c.if-map_short.true)

pub returns-then-nr-ne0 : goal.returns-then-nr-ne0
unfolding earlier_number_of picture_short
returns-then-nr-ne0 c = simp (sym c.planes_short.ensures, c.if-planes_short.false, sym c.map_short.ensures, c.if-map_short.false, ne_eqb _ _ c.if-nr-ne0.true)

pub returns : goal.returns
unfolding earlier_number_of picture_short
returns c = simp (sym c.planes_short.ensures, c.if-planes_short.false, sym c.map_short.ensures, c.if-map_short.false, eq-eqb _ _ c.if-nr-ne0.false)
