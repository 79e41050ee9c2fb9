-- `lent::twice::few_pairs` meets its contract: the first turn writes 16 places of each row, and the second one, which starts in them or where they
-- end, those up to the end.
-- Assumes nothing.
use Prim.Native.Nat.{ℕ, ◌-◌, ◌*◌}
use native.Mathlib.Omega.{arith}
use mathlib.Core.Path.{refl}
use Rattle.lent.proofs.SpreadAt.{both_at_once, both_more}
use Rattle.lent.proofs.twice.few_pairs.Goals as goal

pub returns : goal.returns
returns c =
    let a = c.args in
    let n : ℕ = a.n in
    let one = both_at_once a.from.now a.dst.now a.a a.b 16 8 16 refl (omega arith) c.put_16.ensures in
    (both_more a.from.now a.dst.now a.a a.b 16 (n - 8) 16 (n - (n - 8)) (2 * n) (omega arith) (omega arith) (omega arith) (omega arith) (omega arith)
    (omega arith, one) c.put_16-2.ensures).1
