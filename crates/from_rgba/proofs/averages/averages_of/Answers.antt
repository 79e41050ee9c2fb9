-- `from_rgba::averages::averages_of` meets its contract. The invariant: the first 2 i columns are in the array. `two_averaged` is a block.
-- Assumes nothing.
use Prim.Native.Nat.{◌*◌}
use native.Mathlib.Omega.{arith}
use mathlib.Core.Path.{◌≡◌}
use Rattle.lent.proofs.SoFar.{so_far_none}
use Rattle.from_rgba.proofs.Blocks.{two_averaged}
use Rattle.lent.proofs.ByPart.{so_far_two}
use Rattle.from_rgba.proofs.averages.averages_of.Goals as goal

pub loop-i-init : goal.loop-i-init
loop-i-init c = so_far_none _ _

pub loop-i-preserved : goal.loop-i-preserved
loop-i-preserved c =
    let a = c.args in
    let block = two_averaged a.rows.now a.at a.below (2 * c.loop-i.i) _ _ _ (omega arith) (omega arith) (omega arith) c.two-upper.ensures c.two-lower.ensures c.averaged_pair.ensures in
    so_far_two _ _ c.loop-i.i c.loop-i.invariant (omega arith) block.0 block.1 c.put_two.ensures

pub returns : goal.returns
returns c =
    let done : c.loop-i.i ≡ c.args.blocks = omega arith in
    rw done at c.loop-i.invariant.1
