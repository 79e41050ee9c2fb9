-- `map::boxes::turn_few` meets its contract: the first three places, one after the other, are all. Each byte is turned by what itself was.
-- Assumes nothing.
use Prim.Native.Nat.{ℕ}
use native.Mathlib.Omega.{arith}
use mathlib.Core.List.{List}
use Rattle.lent.proofs.SoFar.{so_far_none, so_far_all}
use Rattle.map.proofs.Turned.{turn_place}
use Rattle.map.proofs.boxes.turn_few.Goals as goal

pub returns : goal.returns
returns c =
    let xs : List ℕ = c.args.dst.now in
    let one = turn_place xs 0 (so_far_none _ xs) c.turn_at.ensures in
    let two = turn_place xs 1 one c.turn_at-2.ensures in
    so_far_all _ xs 3 (turn_place xs 2 two c.turn_at-3.ensures) (omega arith)
