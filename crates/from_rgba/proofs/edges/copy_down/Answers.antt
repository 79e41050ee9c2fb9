-- `from_rgba::edges::copy_down` meets its contract. The invariant: the first i bytes are copied. What is read is before all that was written.
-- Assumes nothing.
use Prim.Native.Nat.{ℕ, ◌+◌, ◌-◌}
use native.Mathlib.Omega.{arith}
use mathlib.Core.Path.{◌≡◌, refl, ap, ◌∙◌}
use mathlib.Core.List.{List}
use lib.ListN.{get_or, length-set}
use Rattle.lent.specs.Paint.{within}
use Rattle.lent.proofs.Bools.{never_true, cond-false}
use Rattle.lent.proofs.Paint.{get_d_paint}
use Rattle.lent.proofs.Taken.{within_facts}
use Rattle.lent.proofs.ByPart.{within_none, within_next}
use Rattle.from_rgba.proofs.edges.copy_down.Goals as goal

pub loop-i-init : goal.loop-i-init
loop-i-init c = (refl, within_none _ _ _)

pub loop-i-preserved : goal.loop-i-preserved
loop-i-preserved c =
    let a = c.args in
    let i = c.loop-i.i in
    let place : a.from + i ≡ a.from + (a.to + i - a.to) = omega arith in
    let read : get_or c.loop-i.plane (a.from + i) 0 ≡ get_or a.plane.now (a.from + (a.to + i - a.to)) 0 =
    ap (λ (xs : List ℕ). get_or xs (a.from + i) 0) c.loop-i.invariant.1
    ∙ get_d_paint _ _ a.plane.now (a.from + i) (omega arith)
    ∙ cond-false _ _ _ (never_true (within a.to (a.to + i) (a.from + i)) (λ e. omega (arith, (within_facts a.to (a.to + i) (a.from + i) e).0)))
    ∙ ap (λ (k : ℕ). get_or a.plane.now k 0) place in
    (simp length-set (omega arith), rw c.loop-i.invariant.1 (within_next _ a.plane.now a.to i _ (omega arith) (rw c.loop-i.invariant.1 at read)))

pub returns : goal.returns
returns c =
    let done : c.loop-i.i ≡ c.args.n = omega arith in
    rw done at c.loop-i.invariant.1
