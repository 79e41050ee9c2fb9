-- `from_rgba::edges::fill_columns` meets its contract. The invariant: the padding right of the rows below `row` holds their last samples, and all
-- else is as it was.
-- Assumes nothing.
use Prim.Native.Nat.{ℕ, ◌+◌, ◌*◌, ◌-◌, ◌<◌, ◌≤◌}
use native.Mathlib.Omega.{arith}
use mathlib.Core.Path.{◌≡◌, refl, ap, ◌∙◌}
use lib.ListN.{length, get_or}
use Rattle.lent.specs.Paint.{painted}
use Rattle.lent.specs.Samples.{sample}
use Rattle.lent.specs.Sizes.{round_up}
use Rattle.lent.proofs.Cells.{row_in}
use Rattle.lent.proofs.Painted.{length_painted}
use Rattle.lent.proofs.Rows.{rows_none, rows_all}
use Rattle.lent.proofs.PartRows.{part_more}
use Rattle.from_rgba.specs.Edges.{past_column}
use Rattle.from_rgba.proofs.EdgeLaws.{column_row, column_facts, last_untaken, untaken}
use Rattle.from_rgba.proofs.edges.fill_columns.Goals.{After-round_up_16-stride, In-loop-row}
use Rattle.from_rgba.proofs.edges.fill_columns.Goals as goal

pub loop-row-init : goal.loop-row-init
loop-row-init c = (refl, rows_none _ _ _ _ _ 0 (λ r c e. omega arith))

-- the plane is within the buffer, and the picture within the plane
fits : (c : After-round_up_16-stride) → let a = c.args in (round_up 16 a.height * c.round_up_16-stride.result ≤ length a.plane.now) × (1 ≤ a.width) × (a.width ≤ c.round_up_16-stride.result)
fits c =
    (rw c.round_up_16-stride.ensures c.requires.width_in_bounds, omega (arith, c.requires.width_nonzero), omega (arith, c.round_up_16-stride.ensures))

row_inside : (c : In-loop-row) → let w = c.round_up_16-stride.result in c.loop-row.row * w + w ≤ length c.loop-row.plane
row_inside c =
    let a = c.args in
    omega (arith, ((let inl : (let a = c.args in (round_up 16 a.height * c.round_up_16-stride.result ≤ length a.plane.now) × (1 ≤ a.width) × (a.width ≤ c.round_up_16-stride.result)) = (rw c.round_up_16-stride.ensures c.requires.width_in_bounds, omega (arith, c.requires.width_nonzero), omega (arith, c.round_up_16-stride.ensures)) in inl)).0, row_in c.round_up_16-stride.result (round_up 16 a.height) c.loop-row.row (omega (arith, c.loop-row-test.true)))

pub overflow_mul-line : goal.overflow_mul-line
overflow_mul-line c = omega (arith, row_inside (goal.at.overflow_mul-line c).In-loop-row)

pub overflow_add-last : goal.overflow_add-last
overflow_add-last c = omega (arith, row_inside (goal.at.overflow_add-last c).In-loop-row, fits (goal.at.overflow_add-last c).After-round_up_16-stride)

pub overflow_sub-last : goal.overflow_sub-last
overflow_sub-last c = omega (arith, fits (goal.at.overflow_sub-last c).After-round_up_16-stride)

pub bounds-plane-line : goal.bounds-plane-line
bounds-plane-line c = omega (arith, row_inside (goal.at.bounds-plane-line c).In-loop-row, fits (goal.at.bounds-plane-line c).After-round_up_16-stride)

pub overflow_add-line : goal.overflow_add-line
overflow_add-line c = omega (arith, row_inside (goal.at.overflow_add-line c).In-loop-row, fits (goal.at.overflow_add-line c).After-round_up_16-stride)

pub overflow_add-line-in-loop-row : goal.overflow_add-line-in-loop-row
overflow_add-line-in-loop-row c = omega (arith, row_inside (goal.at.overflow_add-line-in-loop-row c).In-loop-row)

pub slice_bounds-fill-count : goal.slice_bounds-fill-count
slice_bounds-fill-count c = omega (arith, fits (goal.at.slice_bounds-fill-count c).After-round_up_16-stride)

pub slice_bounds-fill-start : goal.slice_bounds-fill-start
slice_bounds-fill-start c = omega (arith, fits (goal.at.slice_bounds-fill-start c).After-round_up_16-stride)

pub slice_bounds-fill-end : goal.slice_bounds-fill-end
slice_bounds-fill-end c = omega (arith, row_inside (goal.at.slice_bounds-fill-end c).In-loop-row)

pub loop-row-preserved : goal.loop-row-preserved
loop-row-preserved c =
    let a = c.args in
    let w = c.round_up_16-stride.result in
    let f = fits (goal.at.loop-row-preserved c).After-round_up_16-stride in
    let hr : c.loop-row.row < round_up 16 a.height = omega (arith, c.loop-row-test.true) in
    let place : c.loop-row.row * w + a.width - 1 ≡ c.loop-row.row * w + (a.width - 1) = omega (arith, f.1) in
    let last = ap (λ (k : ℕ). get_or c.loop-row.plane k 0) place ∙ untaken w _ c.loop-row.row c.loop-row.row (a.width - 1) (past_column a.width a.height) _ a.plane.now f.0 hr (omega (arith, f)) (last_untaken a.width a.height c.loop-row.row f.1) c.loop-row.invariant.1 in
    let done =
    part_more w (round_up 16 a.height) (past_column a.width a.height) (λ r k. sample a.plane.now w r (a.width - 1)) a.plane.now f.0 c.loop-row.row a.width w _ _ _
    hr f.2 (omega arith) refl refl
    (λ k hk. column_row a.width a.height w c.loop-row.row k c.loop-row-test.true hk)
    (λ j h. last) c.loop-row.invariant.1 c.fill.ensures refl in
    (ap length done ∙ length_painted _ _ _ _ a.plane.now, done)

pub returns : goal.returns
returns c =
    let a = c.args in
    c.loop-row.invariant.1
    ∙ rows_all c.round_up_16-stride.result (round_up 16 a.height) _ _ a.plane.now c.loop-row.row (λ r k hr hk e. omega (arith, (column_facts a.width a.height r k e).0, c.loop-row-test.false))
    ∙ ap (λ (w : ℕ). painted w (round_up 16 a.height) (past_column a.width a.height) (λ r k. sample a.plane.now w r (a.width - 1)) a.plane.now) c.round_up_16-stride.ensures
