-- `from_rgba::averages::put_back` meets its contract. The invariant: the first i bytes are in their places. `within_next` is one turn.
-- Assumes nothing.
use Prim.Native.Nat.{ℕ, ◌+◌, ◌-◌}
use native.Mathlib.Omega.{arith}
use mathlib.Core.Path.{◌≡◌, refl, ap}
use lib.ListN.{get_or, length-set}
use Rattle.lent.proofs.ByPart.{within_none, within_next}
use Rattle.from_rgba.proofs.averages.put_back.Goals as goal

pub loop-i-init : goal.loop-i-init
loop-i-init c = (refl, within_none _ _ _)

pub loop-i-preserved : goal.loop-i-preserved
loop-i-preserved c =
    let a = c.args in
    let place : c.loop-i.i ≡ a.at + c.loop-i.i - a.at = omega arith in
    (simp length-set (omega arith), rw c.loop-i.invariant.1 (within_next _ a.dst.now a.at c.loop-i.i _ (omega arith) (ap (λ (k : ℕ). get_or a.from.now k 0) place)))

pub returns : goal.returns
returns c =
    let done : c.loop-i.i ≡ c.args.n = omega arith in
    rw done at c.loop-i.invariant.1
