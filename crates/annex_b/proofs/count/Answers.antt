-- `annex_b::count` meets its contract. The invariant: the position and the units after it are all that is counted.
-- Assumes nothing.
use native.Mathlib.Omega.{arith}
use mathlib.Core.Path.{◌∙◌}
use Rattle.annex_b.specs.AnnexB.{count_of}
use Rattle.annex_b.proofs.UnitLaws.{Found, found, found_none}
use Rattle.annex_b.proofs.Made.{summed_more, summed_none}
use Rattle.annex_b.proofs.count.Goals.{In-Some}
use Rattle.annex_b.proofs.count.Goals as goal

-- the unit that the step has found
found_at : (c : In-Some) → Found c.args.s.now c.loop-unit.c.at c.in-Some.unit.start c.in-Some.unit.end c.in-Some.unit.next.at
found_at c = found c.args.s.now c.loop-unit.c.at c.step.ensures c.in-Some.is

pub loop-unit-init : goal.loop-unit-init
unfolding count_of
loop-unit-init c = rw c.new-c.ensures (omega arith)

pub returns : goal.returns
returns c =
    let s = c.args.s.now in
    summed_none s c.loop-unit.c.at (found_none s c.loop-unit.c.at c.step.ensures c.in_default.is) ∙ c.loop-unit.invariant

pub loop-unit-smaller : goal.loop-unit-smaller
loop-unit-smaller c = let f = found_at (goal.at.loop-unit-smaller c).In-Some in omega arith

pub loop-unit-preserved : goal.loop-unit-preserved
loop-unit-preserved c = summed_more (found_at (goal.at.loop-unit-preserved c).In-Some) ∙ c.loop-unit.invariant
