-- `split_rows::picked_wide` meets its contract: each STEP-th sample of the row, and `fill` past them.
-- Assumes nothing.
use Prim.Native.Nat.{◌+◌, ◌*◌, ◌/◌}
use native.Mathlib.Omega.{arith}
use mathlib.Core.Path.{refl}
use lib.ListN.{length}
use Rattle.split_rows.proofs.Rows.{row_goes_on, picked_below, picked_past, picked_room}
use Rattle.split_rows.proofs.picked_wide.Goals as goal

pub returns-then-end-most : goal.returns-then-end-most
returns-then-end-most g c =
    let a = c.args in
    let step = g.row.STEP in
    let low = c.requires.first_bound in
    let even = c.requires.wide_fits.even in
    row_goes_on a.fill a.plane.now a.stride a.row (λ k. step * k + a.first) a.out.now c.picked_row.new.out c.fill.new.dst (a.stride / step) (a.stride / step + 16 / step) c.if-end-most.true (omega arith)
    (picked_below step a.stride a.first low even) (picked_past step a.stride a.first low even) c.picked_row.ensures c.fill.ensures

pub returns-else-end-most : goal.returns-else-end-most
returns-else-end-most g c =
    let a = c.args in
    let step = g.row.STEP in
    let low = c.requires.first_bound in
    let even = c.requires.wide_fits.even in
    row_goes_on a.fill a.plane.now a.stride a.row (λ k. step * k + a.first) a.out.now c.picked_row.new.out c.fill-else-end-most.new.dst (a.stride / step) (length a.out.now) refl (picked_room step a.stride a.first low even (length a.out.now) c.requires.wide_fits.room)
    (picked_below step a.stride a.first low even) (picked_past step a.stride a.first low even) c.picked_row.ensures c.fill-else-end-most.ensures
