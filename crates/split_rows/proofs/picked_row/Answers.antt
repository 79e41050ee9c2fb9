-- `split_rows::picked_row` meets its contract. The invariant: the bytes below `at` are written.
-- Assumes nothing.
use Prim.Native.Nat.{◌+◌}
use native.Mathlib.Omega.{arith}
use Rattle.lent.proofs.SoFar.{so_far_none, so_far_all}
use Rattle.split_rows.proofs.Rows.{picked_more, so_far_at}
use Rattle.split_rows.proofs.picked_row.Goals as goal

pub loop-at-init : goal.loop-at-init
loop-at-init g c = so_far_none _ _

pub loop-at-preserved : goal.loop-at-preserved
loop-at-preserved g c =
    let a = c.args in
    so_far_at _ _ (picked_more g.row.STEP a.stride a.row a.first a.plane.now a.out.now c.loop-at.out _ c.loop-at.at (c.loop-at.at + c.min.result) c.requires.first_bound (omega arith) (omega arith) c.loop-at.invariant c.picked_part.ensures) (omega arith)

pub returns : goal.returns
returns g c = so_far_all _ _ c.loop-at.at c.loop-at.invariant (omega arith)

-- the last part
pub returns-2 : goal.returns-2
returns-2 g c =
    let a = c.args in
    so_far_all _ _ (c.loop-at.at + c.min.result) (picked_more g.row.STEP a.stride a.row a.first a.plane.now a.out.now c.loop-at.out _ c.loop-at.at (c.loop-at.at + c.min.result) c.requires.first_bound (omega arith) (omega arith) c.loop-at.invariant c.picked_part.ensures) (omega arith)
