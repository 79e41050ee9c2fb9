-- `strict::check` meets its contract: each return is the first test that held, and the view's own number is the rest of the list. A picture
-- is short where its map is, or a plane.
-- Assumes nothing.
use borrow.Author.Tests.{eq-eqb, ne_eqb}
use mathlib.Core.Path.{◌≡◌, sym, ◌∙◌}
use Rattle.lent.proofs.Bools.{cond-true}
use Rattle.view.specs.View.{view_number_of}
use Rattle.map.specs.Map.{picture_short}
use Rattle.map.proofs.Sizes.{picture_map_short, picture_planes}
use Rattle.strict.specs.Calls.{strict_number_of}
use Rattle.strict.proofs.check.Goals.{After-planes_short}
use Rattle.strict.proofs.check.Goals as goal

pub returns-then-map_short : goal.returns-then-map_short
unfolding strict_number_of
returns-then-map_short c =
    let a = c.args in
    sym (cond-true _ _ _ (picture_map_short a.size a.ny a.nu a.nv a.nm (sym c.map_short.ensures ∙ c.if-map_short.true)))

-- where the map is whole, the planes decide
by-planes : (c : After-planes_short) → let a = c.args in picture_short a.size a.ny a.nu a.nv a.nm ≡ c.planes_short.result
by-planes c =
    let a = c.args in
    picture_planes a.size a.ny a.nu a.nv a.nm (sym c.map_short.ensures ∙ c.if-map_short.false) ∙ sym c.planes_short.ensures

pub returns-then-planes_short : goal.returns-then-planes_short
unfolding strict_number_of
returns-then-planes_short c = sym (cond-true _ _ _ (by-planes (goal.at.returns-then-planes_short c).After-planes_short ∙ c.if-planes_short.true))

pub returns-then-rects-ne0 : goal.returns-then-rects-ne0
unfolding strict_number_of
returns-then-rects-ne0 c = simp (by-planes (goal.at.returns-then-rects-ne0 c).After-planes_short, c.if-planes_short.false, ne_eqb _ _ c.if-rects-ne0.true)

pub returns-then-unsound : goal.returns-then-unsound
unfolding strict_number_of
returns-then-unsound c = simp (by-planes (goal.at.returns-then-unsound c).After-planes_short, c.if-planes_short.false, eq-eqb _ _ c.if-rects-ne0.false, sym c.unsound.ensures, c.if-unsound.true)

pub returns : goal.returns
unfolding strict_number_of view_number_of
returns c = simp (by-planes (goal.at.returns c).After-planes_short, c.if-planes_short.false, eq-eqb _ _ c.if-rects-ne0.false, sym c.unsound.ensures, c.if-unsound.false, c.check.ensures)
