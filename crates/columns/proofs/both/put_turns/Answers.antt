-- `columns::both::put_turns` meets its contract. The invariant: the first 2 i places of both rows are written, with the bytes that they had at the
-- even ones.
-- Assumes nothing.
use Prim.Native.Nat.{ℕ, ◌+◌, ◌*◌, ◌/◌}
use native.Mathlib.Omega.{arith}
use mathlib.Core.Path.{◌≡◌, refl}
use mathlib.Core.List.{List}
use lib.Dec.{ltb}
use Rattle.lent.specs.Paint.{paint}
use Rattle.columns.specs.Turns.{new_odds}
use Rattle.lent.proofs.SoFar.{SoFar, so_far_none}
use Rattle.columns.proofs.NewOdds.{new_more}
use Rattle.columns.proofs.both.put_turns.Goals as goal

pub loop-i-init : goal.loop-i-init
loop-i-init c = (refl, omega arith, so_far_none _ _, so_far_none _ _)

pub loop-i-preserved : goal.loop-i-preserved
loop-i-preserved c =
    let a = c.args in (
      omega arith,
      omega arith,
      new_more a.us.now a.u.now c.loop-i.i c.loop-i.invariant.2 (omega arith) c.put_16.ensures.u,
      new_more a.vs.now a.v.now c.loop-i.i c.loop-i.invariant.3 (omega arith) c.put_16.ensures.v,
    )

-- the turns end where the first row of 8 pairs at or behind `most` ends
ended : (from xs : List ℕ) {ys : List ℕ} (i end : ℕ) → i ≡ end → SoFar (new_odds from xs) xs ys (2 * i) → ys ≡ paint (λ k. ltb k (2 * end)) (new_odds from xs) xs
ended from xs i end e f = rw e at f.1

pub returns : goal.returns
returns c =
    let a = c.args in
    let i : ℕ = c.loop-i.i in
    let end : i ≡ (a.most + 7) / 8 * 8 = omega (arith, c.loop-i.invariant.0, c.loop-i.invariant.1) in
    record {
      u = ended a.us.now a.u.now i _ end c.loop-i.invariant.2;
      v = ended a.vs.now a.v.now i _ end c.loop-i.invariant.3;
    }
