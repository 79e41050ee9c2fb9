-- `lent::spread_16` meets its contract: what was written into the array comes out of it.
-- Assumes nothing.
use Prim.Native.Nat.{◌/◌}
use native.Mathlib.Omega.{arith}
use mathlib.Core.Path.{◌∙◌}
use lib.ListN.{get_or}
use Rattle.lent.proofs.Copies.{by_array}
use Rattle.lent.proofs.spread_16.Goals as goal

pub returns : goal.returns
returns c =
    let a = c.args in
    c.copy_front.ensures ∙ rw c.pairs.ensures (by_array a.dst.now _ (λ k. get_or a.from.now (k / 2) 0) _ (omega arith) (omega arith))
