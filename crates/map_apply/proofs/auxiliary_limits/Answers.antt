-- `map_apply::auxiliary_limits` meets its contract, in either layout.
-- Assumes nothing.
use Prim.Native.Nat.{◌+◌, ◌*◌, ◌/◌}
use Rattle.map_apply.specs.Boxes.{limits}
use Rattle.map_apply.proofs.auxiliary_limits.Goals as goal

pub returns-in-V1 : goal.returns-in-V1
returns-in-V1 c =
    let a = c.args in
    rw c.in-V1.is (λ i. limits (a.w.width / 2) (8 * (a.w.height / 16) + c.saturating_sub.ensures i))

pub returns-in-V2 : goal.returns-in-V2
returns-in-V2 c =
    let a = c.args in
    rw c.in-V2.is (λ i. limits (c.saturating_sub-in-V2.ensures i) (a.w.height / 2))
