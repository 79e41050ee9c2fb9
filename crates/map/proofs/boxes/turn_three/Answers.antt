-- `map::boxes::turn_three` meets its contract: each part is turned in an array before any is written, and the last part starts in the second or
-- where it ends.
-- Assumes nothing.
use Prim.Native.Nat.{ℕ, ◌-◌}
use native.Mathlib.Omega.{arith}
use mathlib.Core.Path.{refl}
use mathlib.Core.List.{List}
use lib.ListN.{length}
use Rattle.lent.proofs.SoFar.{so_far_all}
use Rattle.lent.proofs.ByEnds.{array_front, array_part}
use Rattle.map.proofs.TurnedParts.{turned, part_turned}
use Rattle.map.proofs.boxes.turn_three.Goals as goal

pub returns : goal.returns
returns c =
    let xs : List ℕ = c.args.dst.now in
    let n : ℕ = length xs in
    let one = array_front (turned xs) xs _ 16 (omega arith) c.turned_front.ensures c.copy_front.ensures in
    let two = array_part (turned xs) xs _ _ 16 16 32 16 refl (omega arith) (omega arith) (omega arith) (omega arith) (part_turned xs 16 32) one
    c.turned_front-2.ensures c.copy_front-2.ensures in
    let all = array_part (turned xs) xs _ _ 32 (n - 16) n 16 (omega arith) (omega arith) (omega arith) (omega arith) (omega arith) (part_turned xs (n - 16) n) two
    c.turned_front-3.ensures c.copy_front-3.ensures in
    so_far_all _ xs n all (omega arith)
