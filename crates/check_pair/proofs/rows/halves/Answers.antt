-- `check_pair::rows::halves` meets its contract: the first wrong column is the first half's, or else the second's.
-- Assumes nothing.
use Prim.Native.Nat.{◌/◌}
use native.Mathlib.Omega.{arith}
use lib.ListN.{length}
use Rattle.check_rows.proofs.Rows.{wrong_in}
use Rattle.check_pair.proofs.Lines.{first_half, second_half}
use Rattle.check_pair.proofs.rows.halves.Goals as goal

pub returns-then-found-half : goal.returns-then-found-half
returns-then-found-half c =
    let a = c.args in
    first_half a.taken a.row.now a.from.u.now a.from.v.now a.from.stride a.line c.requires.row_len c.taken_row-found.ensures c.if-found-half.true

pub overflow_add-result : goal.overflow_add-result
overflow_add-result c =
    let a = c.args in
    omega (arith, wrong_in a.row.now _ (length a.row.now / 2) (omega arith) c.taken_row.ensures)

pub returns : goal.returns
returns c =
    let a = c.args in
    second_half a.taken a.row.now a.from.u.now a.from.v.now a.from.stride a.line c.requires.row_len c.taken_row-found.ensures c.if-found-half.false c.taken_row.ensures
