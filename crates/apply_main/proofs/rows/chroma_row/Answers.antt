-- `apply_main::rows::chroma_row` meets its contract: where the view has the row, each byte of its part goes to two columns of the plane's, and otherwise nothing is taken.
-- Assumes nothing.
use Prim.Native.Nat.{◌+◌, ◌*◌, ◌/◌, ◌<◌, ◌≤◌}
use native.Mathlib.Omega.{arith}
use mathlib.Core.Path.{◌≡◌, refl}
use lib.ListN.{length}
use Rattle.picture.specs.Sizes.{stride_of}
use Rattle.view.proofs.Starts.{row_start_at, row_start_absent}
use Rattle.apply_main.proofs.RowLaws.{line_fits, row_absent, row_written, part_halved}
use Rattle.apply_main.proofs.rows.chroma_row.Goals.{After-stride, In-Some}
use Rattle.apply_main.proofs.rows.chroma_row.Goals as goal

-- the view has the row, it starts at `found`, and it lies in the view's plane
there : (f : In-Some) → let a = f.args in (a.row / 2 < a.from.height) × (f.in-Some.start ≡ a.row / 2 * a.from.stride)
there f = row_start_at _ _ _ f.row_start.ensures f.in-Some.is

view-row : (f : In-Some) → let a = f.args in f.in-Some.start + a.from.stride ≤ length a.samples.now
view-row f = omega (arith, (there f).1, line_fits _ _ _ _ _ refl f.requires.main_rows_fit.view_fits (there f).0)

-- the row lies in the picture's plane
plane-row : (s : After-stride) → let a = s.args in a.row * s.stride.result + stride_of a.size ≤ length a.plane.now
plane-row s =
    let p = s.requires.main_rows_fit in
    line_fits _ _ _ _ _ s.stride.ensures.0 p.plane_fits (omega (arith, p.rows_inside))

pub returns-in_default : goal.returns-in_default
returns-in_default c =
    let late = row_start_absent _ _ _ c.row_start.ensures c.in_default.is in
    row_absent _ _ _ _ _ _ _ _ (omega arith)

pub overflow_mul-line : goal.overflow_mul-line
overflow_mul-line c = omega (arith, plane-row (goal.at.overflow_mul-line c).After-stride)

pub overflow_add-first : goal.overflow_add-first
overflow_add-first c = omega (arith, view-row (goal.at.overflow_add-first c).In-Some)

pub overflow_add-end-2 : goal.overflow_add-end-2
overflow_add-end-2 c = omega (arith, view-row (goal.at.overflow_add-end-2 c).In-Some)

pub overflow_add-line : goal.overflow_add-line
overflow_add-line c = omega (arith, plane-row (goal.at.overflow_add-line c).After-stride)

pub overflow_add-line-2 : goal.overflow_add-line-2
overflow_add-line-2 c = omega (arith, plane-row (goal.at.overflow_add-line-2 c).After-stride)

pub slice_bounds-spread-end : goal.slice_bounds-spread-end
slice_bounds-spread-end c = omega (arith, plane-row (goal.at.slice_bounds-spread-end c).After-stride)

pub slice_bounds-spread-end-2 : goal.slice_bounds-spread-end-2
slice_bounds-spread-end-2 c = omega (arith, view-row (goal.at.slice_bounds-spread-end-2 c).In-Some)

pub returns : goal.returns
returns c =
    let a = c.args in
    let p = c.requires.main_rows_fit in
    row_written _ _ a.row a.left a.right _ _ _ c.stride.result _ c.spread.new.dst c.stride.ensures.0 p.plane_fits
    (omega (arith, p.rows_inside)) (omega (arith, (there (goal.at.returns c).In-Some).0)) p.ordered p.inside
    c.spread.ensures
    (λ j h. part_halved _ _ _ c.in-Some.start _ _ j (there (goal.at.returns c).In-Some).1 c.requires.left_value h)
