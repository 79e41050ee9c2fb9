-- `annex_b::annex_b` meets its contract. The invariant: the units after the position, put in their place, make the output that all units
-- make of the output at the start; and the position and these units are all that is counted.
-- Assumes nothing.
use native.Mathlib.Omega.{arith}
use mathlib.Core.Path.{refl, ◌∙◌}
use Rattle.annex_b.specs.AnnexB.{count_of}
use Rattle.annex_b.proofs.UnitLaws.{Found, found, found_none}
use Rattle.annex_b.proofs.Made.{summed_more, summed_none}
use Rattle.annex_b.proofs.Written.{put_more, put_none, put_all}
use Rattle.annex_b.proofs.annex_b.Goals.{In-Some}
use Rattle.annex_b.proofs.annex_b.Goals as goal

-- the unit that the step has found
found_at : (c : In-Some) → Found c.args.s.now c.loop-unit.c.at c.in-Some.unit.start c.in-Some.unit.end c.in-Some.unit.next.at
found_at c = found c.args.s.now c.loop-unit.c.at c.step.ensures c.in-Some.is

pub loop-unit-init : goal.loop-unit-init
unfolding count_of
loop-unit-init c = rw c.new-c.ensures (refl, omega arith, refl)

pub returns : goal.returns
returns c =
    let a = c.args in
    let none = found_none a.s.now c.loop-unit.c.at c.step.ensures c.in_default.is in (
      summed_none a.s.now c.loop-unit.c.at none ∙ c.loop-unit.invariant.1,
      put_none a.s.now c.loop-unit.out c.loop-unit.c.at none ∙ c.loop-unit.invariant.2 ∙ put_all a.s.now a.out.now (omega arith),
    )

pub put_unit-requires : goal.put_unit-requires
put_unit-requires c =
    let f = found_at (goal.at.put_unit-requires c).In-Some in
    let n = summed_more f in
    (omega arith, omega arith, omega arith)

pub loop-unit-smaller : goal.loop-unit-smaller
loop-unit-smaller c = let f = found_at (goal.at.loop-unit-smaller c).In-Some in omega arith

pub loop-unit-preserved : goal.loop-unit-preserved
loop-unit-preserved c =
    let f = found_at (goal.at.loop-unit-preserved c).In-Some in
    (c.put_unit.auto.out ∙ c.loop-unit.invariant.0, summed_more f ∙ c.loop-unit.invariant.1, put_more f c.loop-unit.out c.put_unit.new.out c.put_unit.ensures ∙ c.loop-unit.invariant.2)
