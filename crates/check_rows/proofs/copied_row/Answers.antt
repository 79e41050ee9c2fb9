-- `check_rows::copied_row` meets its contract: the samples of the row, and `fill` past them.
-- Assumes nothing.
use Prim.Native.Nat.{ℕ, ◌<◌}
use native.Mathlib.Omega.{arith}
use mathlib.Core.Path.{◌≡◌, ◌∙◌}
use mathlib.Core.List.{List}
use lib.ListN.{get_or}
use Rattle.split_rows.specs.Seen.{seen}
use Rattle.split_rows.proofs.Rows.{row_of, row_sample, seen_inside, seen_past}
use Rattle.check_rows.proofs.Rows.{wrong_in, found_inside, found_none, found_past}
use Rattle.check_rows.proofs.copied_row.Goals as goal

-- below the stride, what is seen is the row's own sample
inside : (fill : ℕ) (plane : List ℕ) (stride line j : ℕ) → j < stride → get_or (row_of plane stride line) j 0 ≡ seen fill plane stride line j
inside fill plane stride line j h = row_sample plane stride line j h ∙ seen_inside fill plane stride line j h

pub returns-then-found-stride : goal.returns-then-found-stride
returns-then-found-stride c =
    let a = c.args in
    found_inside a.row.now (λ k. seen a.fill a.plane.now a.stride a.line k) (λ k. get_or (row_of a.plane.now a.stride a.line) k 0) a.stride (omega (arith, c.requires.room))
    (inside a.fill a.plane.now a.stride a.line) c.copied_first-found.ensures c.if-found-stride.true

pub returns-then-n-stride : goal.returns-then-n-stride
returns-then-n-stride c =
    let a = c.args in
    found_none a.row.now (λ k. seen a.fill a.plane.now a.stride a.line k) (λ k. get_or (row_of a.plane.now a.stride a.line) k 0) a.stride (omega (arith, c.requires.room))
    (inside a.fill a.plane.now a.stride a.line) c.copied_first-found.ensures c.if-found-stride.false c.if-n-stride.true

pub overflow_add-result : goal.overflow_add-result
overflow_add-result c =
    let a = c.args in
    omega (arith, wrong_in a.row.now _ a.stride (omega (arith, c.requires.room)) c.filled_first.ensures)

pub returns : goal.returns
returns c =
    let a = c.args in
    found_past a.row.now (λ k. seen a.fill a.plane.now a.stride a.line k) (λ k. get_or (row_of a.plane.now a.stride a.line) k 0) a.stride (omega (arith, c.requires.room))
    (inside a.fill a.plane.now a.stride a.line) c.copied_first-found.ensures a.fill c.if-found-stride.false
    (λ j h. seen_past a.fill a.plane.now a.stride a.line j h) c.filled_first.ensures
