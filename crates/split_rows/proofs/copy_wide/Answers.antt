-- `split_rows::copy_wide` meets its contract: the row, and `fill` past it.
-- Assumes nothing.
use Prim.Native.Nat.{◌+◌}
use native.Mathlib.Omega.{arith}
use mathlib.Core.Path.{refl}
use lib.ListN.{length}
use Rattle.split_rows.proofs.Rows.{row_goes_on}
use Rattle.split_rows.proofs.copy_wide.Goals as goal

pub returns-then-end-stride : goal.returns-then-end-stride
returns-then-end-stride c =
    let a = c.args in
    row_goes_on a.fill a.plane.now a.stride a.row (λ k. k) a.out.now c.copy_row.new.out c.fill.new.dst a.stride (a.stride + 16) (omega (arith, c.if-end-stride.true)) (omega (arith, c.requires.room))
    (λ j h. omega (arith, c.requires.even)) (λ j. omega (arith, c.requires.even)) c.copy_row.ensures c.fill.ensures

pub returns-else-end-stride : goal.returns-else-end-stride
returns-else-end-stride c =
    let a = c.args in
    row_goes_on a.fill a.plane.now a.stride a.row (λ k. k) a.out.now c.copy_row.new.out c.fill-else-end-stride.new.dst a.stride (length a.out.now) (refl) (omega (arith, c.requires.room))
    (λ j h. omega (arith, c.requires.even)) (λ j. omega (arith, c.requires.even)) c.copy_row.ensures c.fill-else-end-stride.ensures
