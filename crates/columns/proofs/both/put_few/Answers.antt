-- `columns::both::put_few` meets its contract. The invariant: the odd places below 2 i of both rows are painted. A turn paints one more of each:
-- `odd_next`.
-- Assumes nothing.
use Prim.Native.Nat.{ℕ, ◌+◌, ◌*◌, ◌/◌}
use native.Mathlib.Omega.{arith}
use mathlib.Core.Path.{◌≡◌, ap}
use lib.ListN.{get_or}
use Rattle.columns.specs.Turns.{odd}
use Rattle.columns.proofs.Columns.{below_none, below_all, odd_next}
use Rattle.columns.proofs.both.put_few.Goals as goal

pub loop-i-init : goal.loop-i-init
loop-i-init c = (below_none _ _ _, below_none _ _ _)

pub loop-i-preserved : goal.loop-i-preserved
loop-i-preserved c =
    let a = c.args in
    let i : ℕ = c.loop-i.i in
    let half : i ≡ (2 * i + 1) / 2 = omega arith in (
      odd_next _ a.u.now i c.loop-i.invariant.0 (omega arith) (ap (λ (k : ℕ). get_or a.us.now k 0) half),
      odd_next _ a.v.now i c.loop-i.invariant.1 (omega arith) (ap (λ (k : ℕ). get_or a.vs.now k 0) half),
    )

pub returns : goal.returns
returns c =
    record {
      u = below_all odd _ _ (2 * c.loop-i.i) c.loop-i.invariant.0 (omega arith);
      v = below_all odd _ _ (2 * c.loop-i.i) c.loop-i.invariant.1 (omega arith);
    }
