-- `view::check` meets its contract: the first test that holds gives its number.
-- Assumes nothing.
use mathlib.Core.Path.{sym}
use Rattle.view.specs.View.{view_number_of}
use Rattle.view.proofs.check.Goals as goal

pub returns-then-too_narrow : goal.returns-then-too_narrow
unfolding view_number_of
returns-then-too_narrow c = let w = c.too_narrow in simp (sym w.ensures, c.if-too_narrow.true)

pub returns-then-plane_too_short : goal.returns-then-plane_too_short
unfolding view_number_of
returns-then-plane_too_short c =
    let w = c.too_narrow in
    simp (sym w.ensures, c.if-too_narrow.false, sym c.plane_too_short.ensures, c.if-plane_too_short.true)

pub returns : goal.returns
unfolding view_number_of
returns c =
    let w = c.too_narrow in
    simp (sym w.ensures, c.if-too_narrow.false, sym c.plane_too_short.ensures, c.if-plane_too_short.false)
