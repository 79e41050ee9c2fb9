-- `map::boxes::turn_by` meets its contract: the last N bytes start in the first N or where they end, and both are turned in arrays before
-- one is written.
-- Assumes nothing.
use Prim.Native.Nat.{ℕ}
use native.Mathlib.Omega.{arith}
use mathlib.Core.List.{List}
use Rattle.map.proofs.TurnedParts.{ends_turned}
use Rattle.map.proofs.boxes.turn_by.Goals as goal

pub returns : goal.returns
returns g c =
    let xs : List ℕ = c.args.dst.now in
    let both = ends_turned xs _ _ g.row.N (omega arith) (omega arith) (omega arith) (omega arith) c.turned_front.ensures c.turned_front-2.ensures
    c.copy_front.ensures c.copy_front-2.ensures in
    both
