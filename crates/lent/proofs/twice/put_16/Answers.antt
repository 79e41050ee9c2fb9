-- `lent::twice::put_16` meets its contract: what was written into the array comes out of it twice, in two parts of dst that lie apart.
-- Assumes nothing.
use native.Mathlib.Omega.{arith}
use mathlib.Core.Path.{ap, ◌∙◌}
use Rattle.lent.specs.Spread.{spread_at}
use Rattle.lent.proofs.SpreadAt.{spread_lent}
use Rattle.lent.proofs.twice.put_16.Goals as goal

pub returns : goal.returns
returns c =
    let a = c.args in
    let array = c.pairs.ensures in
    spread_lent a.from.now _ _ a.b 16 (omega arith) (omega arith) (rw array at c.copy_front-2.ensures)
    ∙ ap (spread_at a.b 16 a.from.now) (spread_lent a.from.now _ _ a.a 16 (omega arith) (omega arith) (rw array at c.copy_front.ensures))
