-- `from_rgba::edges::fill_rows` meets its contract. The invariant: the rows from the picture's end to below `row` hold its last row, and all else is
-- as it was.
-- Assumes nothing.
use Prim.Native.Nat.{◌+◌, ◌*◌, ◌-◌, ◌<◌, ◌≤◌}
use native.Mathlib.Omega.{arith}
use mathlib.Core.Path.{refl, ap, ◌∙◌}
use lib.ListN.{length}
use Rattle.lent.specs.Paint.{painted}
use Rattle.lent.specs.Samples.{sample}
use Rattle.lent.proofs.Cells.{row_in, row_after}
use Rattle.lent.proofs.Painted.{length_painted}
use Rattle.lent.proofs.Rows.{rows_none, rows_all}
use Rattle.from_rgba.specs.Edges.{past_row}
use Rattle.from_rgba.proofs.EdgeLaws.{row_facts, row_more}
use Rattle.from_rgba.proofs.edges.fill_rows.Goals.{After-round_up_16-rows, In-loop-row}
use Rattle.from_rgba.proofs.edges.fill_rows.Goals as goal

-- the plane is within the buffer, and the picture's last row within the plane
fits : (c : After-round_up_16-rows) →
    let a = c.args in
    let w = c.round_up_16-stride.result in
    (c.round_up_16-rows.result * w ≤ length a.plane.now) × (0 < a.height) × (a.height ≤ c.round_up_16-rows.result)
fits c =
    (rw (c.round_up_16-rows.ensures, c.round_up_16-stride.ensures) c.requires.width_in_bounds, c.requires.height_nonzero, omega (arith, c.round_up_16-rows.ensures))

pub overflow_sub-last : goal.overflow_sub-last
overflow_sub-last c = omega (arith, (fits (goal.at.overflow_sub-last c).After-round_up_16-rows).1)

pub overflow_mul-last : goal.overflow_mul-last
overflow_mul-last c = omega (arith, fits (goal.at.overflow_mul-last c).After-round_up_16-rows, row_in c.round_up_16-stride.result c.round_up_16-rows.result (c.args.height - 1) (omega (arith, fits (goal.at.overflow_mul-last c).After-round_up_16-rows)))

pub loop-row-init : goal.loop-row-init
loop-row-init c = (omega arith, refl, rows_none _ _ _ _ _ _ (λ r k e. row_facts _ r k e))

-- the last row is before the one that it goes to, and that is within the plane
row_inside : (c : In-loop-row) →
    let w = c.round_up_16-stride.result in
    (c.loop-row.row * w + w ≤ length c.loop-row.plane) × ((c.args.height - 1) * w + w ≤ c.loop-row.row * w)
row_inside c =
    let w = c.round_up_16-stride.result in
    let inside : c.round_up_16-rows.result * w ≤ length c.args.plane.now = rw (c.round_up_16-rows.ensures, c.round_up_16-stride.ensures) c.requires.width_in_bounds in (
      omega (arith, inside, row_in w c.round_up_16-rows.result c.loop-row.row c.loop-row-test.true),
      row_after w (c.args.height - 1) c.loop-row.row (omega (arith, c.requires.height_nonzero, c.loop-row.invariant.0)),
    )

pub overflow_mul-row : goal.overflow_mul-row
overflow_mul-row c = omega (arith, (row_inside (goal.at.overflow_mul-row c).In-loop-row).0)

pub copy_down-requires : goal.copy_down-requires
copy_down-requires c =
    let f = row_inside (goal.at.copy_down-requires c).In-loop-row in record {
      n_bound = f.1;
      n_in_bounds = f.0;
    }

pub loop-row-preserved : goal.loop-row-preserved
loop-row-preserved c =
    let a = c.args in
    let f = fits (goal.at.loop-row-preserved c).After-round_up_16-rows in
    let done =
    row_more c.round_up_16-stride.result c.round_up_16-rows.result a.height a.plane.now f.0 f.1 c.loop-row.row _ _ c.loop-row.invariant.0 c.loop-row-test.true refl refl c.loop-row.invariant.2
    c.copy_down.ensures in
    (omega (arith, c.loop-row.invariant.0), ap length done ∙ length_painted _ _ _ _ a.plane.now, done)

pub returns : goal.returns
returns c =
    let a = c.args in
    c.loop-row.invariant.2
    ∙ rows_all c.round_up_16-stride.result c.round_up_16-rows.result _ _ a.plane.now c.loop-row.row (λ r k hr hk e. omega (arith, c.loop-row-test.false))
    ∙ (λ i. painted (c.round_up_16-stride.ensures i) (c.round_up_16-rows.ensures i) (past_row a.height) (λ r k. sample a.plane.now (c.round_up_16-stride.ensures i) (a.height - 1) k) a.plane.now)
