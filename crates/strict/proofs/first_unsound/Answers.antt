-- `strict::first_unsound` meets its contract: a list that is not in fours is answered 7; else the search stops at the end, where none is unsound, or
-- at the first that is, whose fault is asked for again.
-- Assumes nothing.
use borrow.Author.Tests.{eq-eqb, ne_eqb}
use Prim.Native.Nat.{◌/◌}
use mathlib.Core.Path.{◌≡◌, sym, ap, ◌∙◌}
use mathlib.Core.Bool.{true, false}
use lib.ListN.{length}
use Rattle.rects.specs.Rects.{rect_at_of}
use Rattle.strict.specs.Sound.{fault_of, unsound, first_unsound_of}
use Rattle.strict.specs.Found.{index_in}
use Rattle.strict.proofs.Faults.{unsound_found}
use Rattle.strict.proofs.Searched.{index_found}
use Rattle.std.specs.Prelude.{is_some}
use Rattle.strict.proofs.first_unsound.Goals.{After-first_unsound_index}
use Rattle.strict.proofs.first_unsound.Goals as goal

pub returns-then-rects-ne0 : goal.returns-then-rects-ne0
unfolding first_unsound_of
returns-then-rects-ne0 c = rw (c.none.ensures, c.number.ensures) (simp (ne_eqb _ _ c.if-rects-ne0.true))

-- what the search says of the list
test : (c : After-first_unsound_index) → let a = c.args in
    is_some c.first_unsound_index.result ≡ unsound a.size a.rects.now
test c = let found = c.first_unsound_index.ensures in index_found _ _ found.first found.inside ∙ unsound_found _ _

pub returns-in_default : goal.returns-in_default
unfolding first_unsound_of
returns-in_default c =
    let a = c.args in
    let none : unsound a.size a.rects.now ≡ false = sym (test (goal.at.returns-in_default c).After-first_unsound_index) ∙ ap is_some c.in_default.is in
    rw c.none-in_default.ensures (simp (eq-eqb _ _ c.if-rects-ne0.false, none))

pub returns : goal.returns
unfolding first_unsound_of
returns c =
    let a = c.args in
    let some : unsound a.size a.rects.now ≡ true = sym (test (goal.at.returns c).After-first_unsound_index) ∙ ap is_some c.in-Some.is in
    let index = sym (ap (index_in (length a.rects.now / 4)) c.in-Some.is) ∙ c.first_unsound_index.ensures.first in
    let fault = c.number-2.ensures ∙ c.fault_of-fault.ensures ∙ ap (fault_of a.size) (c.rect_at.ensures ∙ ap (rect_at_of a.rects.now) index) in
    (λ i. record { number = 0; present = true; fault = fault i; index = index i }) ∙ simp (eq-eqb _ _ c.if-rects-ne0.false, some)
