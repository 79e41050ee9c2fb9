-- `check_rows::taken_row` meets its contract: the samples that are taken of the row, and `fill` past them.
-- Assumes nothing.
use Prim.Native.Nat.{ℕ, ◌+◌, ◌*◌, ◌/◌, ◌<◌, ◌≤◌}
use native.Mathlib.Omega.{arith}
use mathlib.Core.Path.{◌≡◌, ◌∙◌}
use lib.ListN.{length, get_or}
use Rattle.split_rows.specs.Seen.{seen}
use Rattle.split_rows.proofs.Rows.{row_of, row_sample, seen_inside, seen_past}
use Rattle.check_rows.specs.Rows.{step_of, first_of}
use Rattle.check_rows.proofs.Rows.{wrong_in, found_inside, found_none, found_past}
use Rattle.check_rows.proofs.Samples.{taken_room, taken_inside, taken_past}
use Rattle.check_rows.proofs.taken_row.Goals.{After-step}
use Rattle.check_rows.proofs.taken_row.Goals as goal

-- the row has room for the samples
room : (c : After-step)
    → let a = c.args in
    (a.stride / c.step.result ≤ length a.row.now) × (step_of a.taken * (a.stride / c.step.result) ≤ a.stride)
room c =
    let a = c.args in
    rw c.step.ensures (taken_room a.stride (length a.row.now) a.taken c.requires.room)

-- the samples that are taken below the stride are what is seen
inside : (c : After-step)
    → let a = c.args in
    (j : ℕ) → j < a.stride / c.step.result
    → get_or (row_of a.plane.now a.stride a.line) (step_of a.taken * j + first_of a.taken) 0 ≡ seen a.fill a.plane.now a.stride a.line (step_of a.taken * j + first_of a.taken)
inside c j h =
    let a = c.args in
    let low = taken_inside a.stride j a.taken c.requires.even (rw c.step.ensures at h) in
    row_sample a.plane.now a.stride a.line _ low ∙ seen_inside a.fill a.plane.now a.stride a.line _ low

pub returns-then-found-most : goal.returns-then-found-most
returns-then-found-most c =
    let a = c.args in
    found_inside a.row.now (λ k. seen a.fill a.plane.now a.stride a.line (step_of a.taken * k + first_of a.taken)) (λ k. get_or (row_of a.plane.now a.stride a.line) (step_of a.taken * k + first_of a.taken) 0) (a.stride / c.step.result) (room (goal.at.returns-then-found-most c).After-step).0
    (inside (goal.at.returns-then-found-most c).After-step)
    c.taken_first-found.ensures c.if-found-most.true

pub returns-then-n-most : goal.returns-then-n-most
returns-then-n-most c =
    let a = c.args in
    found_none a.row.now (λ k. seen a.fill a.plane.now a.stride a.line (step_of a.taken * k + first_of a.taken)) (λ k. get_or (row_of a.plane.now a.stride a.line) (step_of a.taken * k + first_of a.taken) 0) (a.stride / c.step.result) (room (goal.at.returns-then-n-most c).After-step).0
    (inside (goal.at.returns-then-n-most c).After-step)
    c.taken_first-found.ensures c.if-found-most.false c.if-n-most.true

pub overflow_add-result : goal.overflow_add-result
overflow_add-result c =
    let a = c.args in
    omega (arith, wrong_in a.row.now _ (a.stride / c.step.result) (room (goal.at.overflow_add-result c).After-step).0 c.filled_first.ensures)

pub returns : goal.returns
returns c =
    let a = c.args in
    found_past a.row.now (λ k. seen a.fill a.plane.now a.stride a.line (step_of a.taken * k + first_of a.taken)) (λ k. get_or (row_of a.plane.now a.stride a.line) (step_of a.taken * k + first_of a.taken) 0) (a.stride / c.step.result) (room (goal.at.returns c).After-step).0
    (inside (goal.at.returns c).After-step)
    c.taken_first-found.ensures a.fill c.if-found-most.false
    (λ j h. seen_past a.fill a.plane.now a.stride a.line _ (taken_past a.stride j a.taken c.requires.even (rw c.step.ensures at h)))
    c.filled_first.ensures
