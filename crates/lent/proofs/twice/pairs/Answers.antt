-- `lent::twice::pairs` meets its contract. A few pairs go by `few_pairs`. The invariant: the first 16 k bytes of both rows are written. A turn writes
-- the next 16 of each, and the last turn, which may start before the loop's end, those up to the end.
-- Assumes nothing.
use Prim.Native.Nat.{ℕ, ◌+◌, ◌-◌, ◌*◌}
use native.Mathlib.Omega.{arith}
use Rattle.lent.proofs.SpreadAt.{both_none, both_more}
use Rattle.lent.proofs.twice.pairs.Goals as goal

pub loop-k-init : goal.loop-k-init
loop-k-init c = let a = c.args in both_none a.from.now a.dst.now a.a a.b

pub loop-k-preserved : goal.loop-k-preserved
loop-k-preserved c =
    let a = c.args in
    let k : ℕ = c.loop-k.k in
    let i : ℕ = 8 * k in
    both_more a.from.now a.dst.now a.a a.b (2 * i) i 16 (i + 8 - i) (2 * (8 * (k + 1))) (omega arith) (omega arith) (omega arith) (omega arith) (omega arith)
    c.loop-k.invariant c.put_16.ensures

pub returns : goal.returns
returns c =
    let a = c.args in
    let n : ℕ = a.n in
    (both_more a.from.now a.dst.now a.a a.b (2 * (8 * c.loop-k.k)) (n - 8) 16 (n - (n - 8)) (2 * n) (omega arith) (omega arith) (omega arith) (omega arith) (omega arith)
    c.loop-k.invariant c.put_16-2.ensures).1
