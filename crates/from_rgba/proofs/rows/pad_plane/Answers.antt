-- `from_rgba::rows::pad_plane` meets its contract. The invariant: the padding of the rows below `row` holds the value, and all else is as it was.
-- Assumes nothing.
use Prim.Native.Nat.{◌+◌, ◌*◌, ◌≤◌}
use native.Mathlib.Omega.{arith}
use mathlib.Core.Path.{refl, ap, ◌∙◌}
use mathlib.Core.Bool.{not}
use lib.ListN.{length}
use Rattle.lent.specs.Paint.{painted}
use Rattle.lent.proofs.Cells.{row_in}
use Rattle.lent.proofs.Painted.{length_painted}
use Rattle.lent.proofs.Rows.{rows_none, rows_all}
use Rattle.from_rgba.specs.Rows.{inside}
use Rattle.lent.proofs.PartRows.{part_more}
use Rattle.from_rgba.proofs.Padding.{padding_in, padding_row}
use Rattle.from_rgba.proofs.rows.pad_plane.Goals.{After-padding_from-from, After-round_up_16-rows, In-loop-row}
use Rattle.from_rgba.proofs.rows.pad_plane.Goals as goal

pub loop-row-init : goal.loop-row-init
loop-row-init c = (refl, rows_none _ _ _ _ _ 0 (λ r c e. omega arith))

-- the plane, and in it the row, are within the buffer
fits : (c : After-round_up_16-rows) → c.round_up_16-rows.result * c.round_up_16-stride.result ≤ length c.args.plane.now
fits c = rw (c.round_up_16-rows.ensures, c.round_up_16-stride.ensures) c.requires

row_inside : (c : In-loop-row) → let w = c.round_up_16-stride.result in c.loop-row.row * w + w ≤ length c.loop-row.plane
row_inside c =
    omega (arith, (let inl : (c.round_up_16-rows.result * c.round_up_16-stride.result ≤ length c.args.plane.now) = rw (c.round_up_16-rows.ensures, c.round_up_16-stride.ensures) c.requires in inl), row_in c.round_up_16-stride.result c.round_up_16-rows.result c.loop-row.row c.loop-row-test.true)

-- padding starts within the row
narrow : (c : After-padding_from-from) → c.padding_from-from.result ≤ c.round_up_16-stride.result
narrow c = rw (c.padding_from-from.ensures, c.round_up_16-stride.ensures) (let a = c.args in padding_in a.width a.height c.loop-row.row)

pub overflow_mul-line : goal.overflow_mul-line
overflow_mul-line c = omega (arith, row_inside (goal.at.overflow_mul-line c).In-loop-row)

pub overflow_add-line : goal.overflow_add-line
overflow_add-line c = omega (arith, row_inside (goal.at.overflow_add-line c).In-loop-row, narrow (goal.at.overflow_add-line c).After-padding_from-from)

pub overflow_add-line-in-loop-row : goal.overflow_add-line-in-loop-row
overflow_add-line-in-loop-row c = omega (arith, row_inside (goal.at.overflow_add-line-in-loop-row c).In-loop-row)

pub slice_bounds-fill-count : goal.slice_bounds-fill-count
slice_bounds-fill-count c = omega (arith, narrow (goal.at.slice_bounds-fill-count c).After-padding_from-from)

pub slice_bounds-fill-start : goal.slice_bounds-fill-start
slice_bounds-fill-start c = omega (arith, narrow (goal.at.slice_bounds-fill-start c).After-padding_from-from)

pub slice_bounds-fill-end : goal.slice_bounds-fill-end
slice_bounds-fill-end c = omega (arith, row_inside (goal.at.slice_bounds-fill-end c).In-loop-row)

pub loop-row-preserved : goal.loop-row-preserved
loop-row-preserved c =
    let w = c.round_up_16-stride.result in
    let h = c.round_up_16-rows.result in
    let a = c.args in
    let width = c.round_up_16-stride.ensures in
    let done =
    part_more w h (λ r k. not (inside a.width a.height r k)) (λ r k. a.value) a.plane.now (fits (goal.at.loop-row-preserved c).After-round_up_16-rows) c.loop-row.row c.padding_from-from.result w _ _ _
    c.loop-row-test.true (narrow (goal.at.loop-row-preserved c).After-padding_from-from) (omega arith) refl refl
    (λ k hk. rw (c.padding_from-from.ensures, width) (padding_row a.width a.height c.loop-row.row k (rw width at hk)))
    (λ j h. refl) c.loop-row.invariant.1 c.fill.ensures refl in
    (ap length done ∙ length_painted _ _ _ _ a.plane.now, done)

pub returns : goal.returns
returns c =
    let a = c.args in
    c.loop-row.invariant.1
    ∙ rows_all c.round_up_16-stride.result c.round_up_16-rows.result _ _ a.plane.now c.loop-row.row (λ r k hr hk e. omega arith)
    ∙ (λ i. painted (c.round_up_16-stride.ensures i) (c.round_up_16-rows.ensures i) (λ r k. not (inside a.width a.height r k)) (λ r k. a.value) a.plane.now)
