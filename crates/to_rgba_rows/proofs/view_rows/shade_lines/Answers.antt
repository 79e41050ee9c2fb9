-- `to_rgba_rows::view_rows::shade_lines` meets its contract. The invariant: in the rows below l the columns from k to below k + m are done.
-- A row's part was lent, written whole and came back, `part_more`.
-- Assumes nothing.
use Prim.Native.Nat.{◌+◌, ◌*◌, ◌≤◌}
use native.Mathlib.Omega.{arith}
use mathlib.Core.Path.{refl, ap, ◌∙◌}
use lib.ListN.{length}
use Rattle.lent.specs.Pixels.{bytes}
use Rattle.lent.proofs.ByPart.{part_long}
use Rattle.lent.proofs.Cells.{row_in}
use Rattle.lent.proofs.Painted.{length_painted}
use Rattle.lent.proofs.Rows.{rows_none, rows_all}
use Rattle.to_rgba_rows.specs.Rules.{shades_from, half_of}
use Rattle.lent.proofs.PartRows.{part_more}
use Rattle.to_rgba_rows.proofs.ViewParts.{bytes_from}
use Rattle.to_rgba_rows.proofs.view_rows.shade_lines.Goals.{In-loop-l}
use Rattle.to_rgba_rows.proofs.view_rows.shade_lines.Goals as goal

pub loop-l-init : goal.loop-l-init
loop-l-init c = (refl, rows_none _ _ _ _ _ 0 (λ r q e. omega arith))

-- the row is within the output, and its luma within the input
room : (c : In-loop-l) →
    let l = c.loop-l.l in
    let a = c.args in
    (l * (4 * a.n) + 4 * a.n ≤ length c.loop-l.out) × (a.at + l * a.luma + a.luma ≤ length a.y.now)
room c =
    let a = c.args in
    let lt = c.loop-l-test.true in
    (omega (arith, row_in (4 * a.n) a.lines c.loop-l.l lt), omega (arith, row_in a.luma a.lines c.loop-l.l lt))

pub overflow_mul-start-in-loop-l : goal.overflow_mul-start-in-loop-l
overflow_mul-start-in-loop-l c = omega (arith, room (goal.at.overflow_mul-start-in-loop-l c).In-loop-l)

pub overflow_add-start : goal.overflow_add-start
overflow_add-start c = omega (arith, room (goal.at.overflow_add-start c).In-loop-l)

pub overflow_add-start-in-loop-l : goal.overflow_add-start-in-loop-l
overflow_add-start-in-loop-l c = omega (arith, room (goal.at.overflow_add-start-in-loop-l c).In-loop-l)

pub slice_bounds-pair_shades-end : goal.slice_bounds-pair_shades-end
slice_bounds-pair_shades-end c = omega (arith, room (goal.at.slice_bounds-pair_shades-end c).In-loop-l)

pub overflow_mul-l : goal.overflow_mul-l
overflow_mul-l c = omega (arith, room (goal.at.overflow_mul-l c).In-loop-l)

pub overflow_add-at : goal.overflow_add-at
overflow_add-at c = omega (arith, room (goal.at.overflow_add-at c).In-loop-l)

pub overflow_add-at-in-loop-l : goal.overflow_add-at-in-loop-l
overflow_add-at-in-loop-l c = omega (arith, room (goal.at.overflow_add-at-in-loop-l c).In-loop-l)

pub pair_shades-requires : goal.pair_shades-requires
pair_shades-requires c =
    let a = c.args in
    let start = c.loop-l.l * (4 * a.n) + 4 * a.k in
    let long = part_long c.loop-l.out start (start + 4 * a.m) (omega arith) (omega (arith, room (goal.at.pair_shades-requires c).In-loop-l)) in
    record {
      out_len = (long ∙ omega arith, c.requires.lines_fit.few, omega (arith, room (goal.at.pair_shades-requires c).In-loop-l));
      small = c.requires.small;
    }

pub loop-l-preserved : goal.loop-l-preserved
loop-l-preserved c =
    let a = c.args in
    let out = a.out.now in
    let start = c.loop-l.l * (4 * a.n) + 4 * a.k in
    let pixel = shades_from half_of a.y.now (a.at + c.loop-l.l * a.luma + a.k) a.r.now a.g.now a.b.now in
    let next = part_more (4 * a.n) a.lines _ _ out (omega arith) c.loop-l.l (4 * a.k) (4 * (a.k + a.m)) start (start + 4 * a.m) (bytes pixel)
    c.loop-l-test.true (omega arith) (omega arith) refl (omega arith) (λ q h. refl) (λ j h. bytes_from pixel a.k j)
    c.loop-l.invariant.1 c.pair_shades.ensures refl in
    (ap length next ∙ length_painted _ _ _ _ out, next)

pub returns : goal.returns
returns c = c.loop-l.invariant.1 ∙ rows_all _ _ _ _ _ c.loop-l.l (λ r q hr hq e. omega arith)
