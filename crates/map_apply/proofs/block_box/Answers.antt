-- `map_apply::block_box` meets its contract: the edges of the widened area are even, so half of them are those of its blocks.
-- Assumes nothing.
use Prim.Native.Nat.{ℕ, ◌*◌, ◌/◌}
use native.Mathlib.Omega.{arith}
use mathlib.Core.Path.{◌≡◌}
use Rattle.map_apply.proofs.block_box.Goals as goal

pub returns : goal.returns
returns c =
    let q = c.args.rect in
    λ i. record { left = even q.left i; top = even q.top i; right = c.blocks_end.ensures i; bottom = c.blocks_end-2.ensures i }
  where
    even : (n : ℕ) → n / 2 ≡ n / 2 * 2 / 2
    even n = omega arith
