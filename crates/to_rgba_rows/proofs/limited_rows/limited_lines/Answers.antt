-- `to_rgba_rows::limited_rows::limited_lines` meets its contract. The invariant: the rows below l are done. A row was lent, written whole and came
-- back, `whole_more`, by the chroma of the even row, `paired_row`.
-- Assumes nothing.
use Prim.Native.Nat.{◌+◌, ◌*◌, ◌≤◌}
use native.Mathlib.Nat.{add-mul}
use native.Mathlib.Omega.{arith}
use mathlib.Core.Path.{refl, ap, ◌∙◌}
use lib.ListN.{length}
use Rattle.colour.specs.Limited.{limited_reverse_of}
use Rattle.lent.proofs.ByPart.{part_long}
use Rattle.lent.proofs.Cells.{row_in}
use Rattle.lent.proofs.Painted.{length_painted}
use Rattle.lent.proofs.Rows.{whole_none, whole_more, whole_all}
use Rattle.to_rgba_rows.proofs.ViewParts.{paired_row}
use Rattle.to_rgba_rows.proofs.limited_rows.limited_lines.Goals.{In-loop-l}
use Rattle.to_rgba_rows.proofs.limited_rows.limited_lines.Goals as goal

-- the row is within the output, and its luma within the input
room : (c : In-loop-l) →
    let l = c.loop-l.l in
    let a = c.args in
    (l * (4 * a.n) + 4 * a.n ≤ length c.loop-l.out) × ((a.row + l) * a.luma + a.luma ≤ length a.y.now)
room c =
    let a = c.args in
    let lt = c.loop-l-test.true in (
      omega (arith, row_in (4 * a.n) a.lines c.loop-l.l lt),
      omega (arith, row_in a.luma a.lines c.loop-l.l lt, add-mul a.row c.loop-l.l a.luma),
    )

pub loop-l-init : goal.loop-l-init
loop-l-init c = (refl, whole_none _ _ _ _)

pub overflow_mul-start : goal.overflow_mul-start
overflow_mul-start c = omega (arith, room (goal.at.overflow_mul-start c).In-loop-l)

pub overflow_add-start : goal.overflow_add-start
overflow_add-start c = omega (arith, room (goal.at.overflow_add-start c).In-loop-l)

pub slice_bounds-limited_row-end : goal.slice_bounds-limited_row-end
slice_bounds-limited_row-end c = omega (arith, room (goal.at.slice_bounds-limited_row-end c).In-loop-l)

pub overflow_mul-row : goal.overflow_mul-row
overflow_mul-row c = omega (arith, room (goal.at.overflow_mul-row c).In-loop-l)

pub limited_row-requires : goal.limited_row-requires
limited_row-requires c =
    let a = c.args in
    let start = c.loop-l.l * (4 * a.n) in
    record {
      exact = part_long c.loop-l.out start (start + 4 * a.n) (omega arith) (omega (arith, room (goal.at.limited_row-requires c).In-loop-l)) ∙ omega arith;
      y_has = omega (arith, room (goal.at.limited_row-requires c).In-loop-l);
      u_has = c.requires.u_fits;
      v_has = c.requires.v_fits;
    }

pub loop-l-preserved : goal.loop-l-preserved
loop-l-preserved c =
    let a = c.args in
    let row = paired_row limited_reverse_of a.luma a.chroma a.row c.loop-l.l a.y.now a.u.now a.v.now _ {is = c.limited_row.new.out}
    c.requires.even_row (omega arith) c.limited_row.ensures in
    let next = whole_more (4 * a.n) a.lines _ a.out.now c.loop-l.l c.loop-l-test.true (omega arith) c.loop-l.invariant.1 row refl in
    (ap length next ∙ length_painted _ _ _ _ a.out.now, next)

pub returns : goal.returns
returns c = c.loop-l.invariant.1 ∙ whole_all _ _ _ _ c.loop-l.l (omega arith)
