-- `map::boxes::turn_each` meets its contract. The invariant: the bytes before the loop's place are turned, the others are as they were.
-- Assumes nothing.
use Prim.Native.Nat.{ℕ}
use native.Mathlib.Omega.{arith}
use mathlib.Core.Path.{ap, ◌∙◌}
use Rattle.lent.proofs.SoFar.{so_far_none, so_far_more, so_far_all}
use Rattle.lent.proofs.ByPart.{so_far_past}
use Rattle.map.specs.Map.{turned_of}
use Rattle.map.proofs.boxes.turn_each.Goals as goal

pub loop-b-init : goal.loop-b-init
loop-b-init c = so_far_none _ _

pub loop-b-preserved : goal.loop-b-preserved
loop-b-preserved c =
    let k : ℕ = c.loop-b.b-index in
    let before = c.loop-b.invariant in
    so_far_more _ _ k before (omega arith) (c.turned.ensures ∙ ap turned_of (so_far_past _ _ k k before (omega arith) (omega arith)))

pub returns : goal.returns
returns c = so_far_all _ _ c.loop-b.b-index c.loop-b.invariant (omega arith)
