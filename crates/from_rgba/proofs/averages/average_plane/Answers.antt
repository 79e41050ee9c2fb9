-- `from_rgba::averages::average_plane` meets its contract. The invariant: the rows below `row`, which is even, hold their averages, and the others are as
-- they were.
-- Assumes nothing.
use Prim.Native.Nat.{◌+◌, ◌*◌, ◌≤◌}
use native.Mathlib.Omega.{arith}
use mathlib.Core.Path.{refl, ap, ◌∙◌}
use lib.ListN.{length}
use Rattle.lent.proofs.Painted.{length_painted}
use Rattle.lent.proofs.Rows.{whole_none, whole_all}
use Rattle.from_rgba.proofs.Blocks.{pair_in_lem, pairs_more}
use Rattle.from_rgba.proofs.averages.average_plane.Goals.{In-loop-row}
use Rattle.from_rgba.proofs.averages.average_plane.Goals as goal

pub loop-row-init : goal.loop-row-init
loop-row-init c = (refl, omega arith, refl, whole_none _ _ _ _)

-- the pair of rows is within the plane
inside : (c : In-loop-row) → let a = c.args in c.loop-row.row * a.stride + 2 * a.stride ≤ length a.plane.now
inside c =
    let a = c.args in
    omega (arith, c.requires.stride_in_bounds, c.requires.stride_value, c.requires.rows_value, pair_in_lem a.stride a.rows c.loop-row.row (omega arith))

pub overflow_mul-line : goal.overflow_mul-line
overflow_mul-line c = omega (arith, inside (goal.at.overflow_mul-line c).In-loop-row)

pub overflow_mul-stride : goal.overflow_mul-stride
overflow_mul-stride c = omega (arith, inside (goal.at.overflow_mul-stride c).In-loop-row)

pub overflow_add-line : goal.overflow_add-line
overflow_add-line c = omega (arith, inside (goal.at.overflow_add-line c).In-loop-row)

pub slice_bounds-average_pair-end : goal.slice_bounds-average_pair-end
slice_bounds-average_pair-end c = omega (arith, inside (goal.at.slice_bounds-average_pair-end c).In-loop-row)

pub loop-row-preserved : goal.loop-row-preserved
loop-row-preserved c =
    let a = c.args in
    let even = c.loop-row.invariant.0 in
    let done =
    pairs_more a.stride a.rows a.plane.now c.requires.stride_in_bounds c.requires.stride_value c.loop-row.row _ _ even (omega (arith, c.requires.rows_value)) refl refl c.loop-row.invariant.3
    c.average_pair.ensures refl in
    (omega arith, omega (arith, c.requires.rows_value), ap length done ∙ length_painted _ _ _ _ a.plane.now, done)

pub returns-2 : goal.returns-2
returns-2 c =
    let a = c.args in
    let even = c.loop-row.invariant.0 in
    pairs_more a.stride a.rows a.plane.now c.requires.stride_in_bounds c.requires.stride_value c.loop-row.row _ _ even (omega (arith, c.requires.rows_value)) refl refl c.loop-row.invariant.3
    c.average_pair.ensures refl
    ∙ whole_all a.stride a.rows _ a.plane.now (c.loop-row.row + 2) (omega (arith, c.requires.rows_value))

pub returns : goal.returns
returns c =
    let a = c.args in
    c.loop-row.invariant.3 ∙ whole_all a.stride a.rows _ a.plane.now c.loop-row.row (omega arith)
