-- `columns::from_u` meets its contract: the fours are painted, and a pair that is left is one turn more (`below_more`).
-- Assumes nothing.
use Prim.Native.Nat.{ℕ, ◌-◌, ◌*◌, ◌/◌}
use native.Mathlib.Omega.{arith}
use mathlib.Core.Path.{refl}
use lib.ListN.{length}
use Rattle.lent.specs.Paint.{every}
use Rattle.columns.proofs.Turns.{by_fours}
use Rattle.columns.proofs.Sources.{last_pair}
use Rattle.columns.proofs.Columns.{below_all, below_more, below-every}
use Rattle.columns.proofs.from_u.Goals as goal

pub returns : goal.returns
returns c =
    let a = c.args in
    let right : ℕ = length a.dst.now in
    let n : ℕ = right / 4 in
    below_all every _ a.dst.now right
    (below_more every (by_fours a.from.now a.u.now a.v.now) a.dst.now (4 * n) right (omega arith) (omega arith)
    (below-every _ a.dst.now (4 * n) c.quads.ensures) c.pair.ensures (λ j h. refl)
    (λ j h e. last_pair a.from.now a.u.now a.v.now n (length a.u.now - n) (length a.from.now - 2 * n) j (omega arith) (omega arith) (omega arith)))
    (omega arith)
