-- `annex_b::made_of_units` meets its contract. The invariant: what is left is made of units exactly where the whole is.
-- Assumes nothing.
use native.Mathlib.Omega.{arith}
use mathlib.Core.Path.{refl, ◌∙◌}
use Rattle.annex_b.proofs.UnitLaws.{Found, found, found_none}
use Rattle.annex_b.proofs.Made.{made_none, made_empty, made_more}
use Rattle.annex_b.proofs.made_of_units.Goals.{In-Some}
use Rattle.annex_b.proofs.made_of_units.Goals as goal

-- the unit that the step has found
found_at : (c : In-Some) → Found c.args.s.now c.loop-unit.c.at c.in-Some.unit.start c.in-Some.unit.end c.in-Some.unit.next.at
found_at c = found c.args.s.now c.loop-unit.c.at c.step.ensures c.in-Some.is

pub loop-unit-init : goal.loop-unit-init
loop-unit-init c = rw c.new-c.ensures refl

pub returns : goal.returns
returns c =
    let s = c.args.s.now in
    made_none s c.loop-unit.c.at (found_none s c.loop-unit.c.at c.step.ensures c.in_default.is) ∙ c.loop-unit.invariant

pub returns-then-unit : goal.returns-then-unit
returns-then-unit c = made_empty (found_at (goal.at.returns-then-unit c).In-Some) c.if-unit.true ∙ c.loop-unit.invariant

pub loop-unit-smaller : goal.loop-unit-smaller
loop-unit-smaller c = let f = found_at (goal.at.loop-unit-smaller c).In-Some in omega arith

pub loop-unit-preserved : goal.loop-unit-preserved
loop-unit-preserved c = made_more (found_at (goal.at.loop-unit-preserved c).In-Some) c.if-unit.false ∙ c.loop-unit.invariant
