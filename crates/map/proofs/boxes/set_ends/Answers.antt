-- `map::boxes::set_ends` meets its contract: the last part starts in the first or where it ends.
-- Assumes nothing.
use Prim.Native.Nat.{ℕ, ◌-◌}
use native.Mathlib.Omega.{arith}
use mathlib.Core.Path.{refl}
use lib.ListN.{length}
use Rattle.lent.proofs.SoFar.{so_far_all}
use Rattle.lent.proofs.ByPart.{so_far_part_over}
use Rattle.map.proofs.boxes.set_ends.Goals as goal

pub returns : goal.returns
returns g c =
    let a = c.args in
    let n : ℕ = length a.dst.now in
    let back = so_far_all _ _ g.row.N (omega arith, c.set_front-2.ensures) (omega arith) in
    so_far_all _ _ n
    (so_far_part_over _ a.dst.now g.row.N (n - g.row.N) n (λ k. a.value) (omega arith) (omega arith) (omega arith)
    (omega arith, c.set_front.ensures) back (λ j h. refl))
    (omega arith)
