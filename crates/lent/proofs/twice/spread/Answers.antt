-- `lent::twice::spread` meets its contract: 16 places at once, or the pairs, and an odd last place of each row, which is one store more.
-- Assumes nothing.
use Prim.Native.Nat.{◌/◌}
use native.Mathlib.Omega.{arith}
use mathlib.Core.Path.{refl}
use Rattle.lent.proofs.SpreadAt.{both_at_once, both_last}
use Rattle.lent.proofs.twice.spread.Goals as goal

pub returns-then-wide-eq16 : goal.returns-then-wide-eq16
returns-then-wide-eq16 c =
    let a = c.args in
    both_at_once a.from.now a.dst.now a.a a.b 16 8 a.wide c.if-wide-eq16.true (omega arith) c.put_16.ensures

pub returns : goal.returns
returns c =
    let a = c.args in
    (both_last a.from.now a.dst.now a.a a.b (a.wide / 2) a.wide (omega arith) (omega arith) (omega arith) refl (c.pairs.auto.dst, c.pairs.ensures)).1
