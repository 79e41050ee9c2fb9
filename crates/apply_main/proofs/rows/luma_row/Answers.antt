-- `apply_main::rows::luma_row` meets its contract: where the view has the row, its part is copied into the plane's, and otherwise nothing is taken.
-- Assumes nothing.
use Prim.Native.Nat.{ℕ, ◌+◌, ◌*◌, ◌<◌, ◌≤◌}
use native.Mathlib.Omega.{arith}
use mathlib.Core.Path.{◌≡◌, refl, ap, ◌∙◌}
use mathlib.Core.List.{List}
use lib.ListN.{length, get_or}
use Rattle.lent.proofs.Paint.{paint_over}
use Rattle.lent.proofs.Samples.{part_sample_lem}
use Rattle.picture.specs.Sizes.{stride_of}
use Rattle.view.proofs.Starts.{row_start_at, row_start_absent}
use Rattle.apply_main.proofs.RowLaws.{line_fits, row_absent, row_written}
use Rattle.apply_main.proofs.rows.luma_row.Goals.{After-stride, In-Some}
use Rattle.apply_main.proofs.rows.luma_row.Goals as goal

-- the view has the row, it starts at `found`, and it lies in the view's plane
there : (f : In-Some) → let a = f.args in (a.row < a.from.height) × (f.in-Some.start ≡ a.row * a.from.stride)
there f = row_start_at _ _ _ f.row_start.ensures f.in-Some.is

view-row : (f : In-Some) → let a = f.args in f.in-Some.start + a.from.stride ≤ length a.vy.now
view-row f = omega (arith, (there f).1, line_fits _ _ _ _ _ refl f.requires.view_fits (there f).0)

-- the row lies in the picture's plane
plane-row : (s : After-stride) → let a = s.args in a.row * s.stride.result + stride_of a.size ≤ length a.y.now
plane-row s =
    let p = s.requires in
    line_fits _ _ _ _ _ s.stride.ensures.0 p.plane_fits (omega (arith, p.rows_inside))

pub returns-in_default : goal.returns-in_default
returns-in_default c = row_absent _ _ _ _ _ _ _ _ (row_start_absent _ _ _ c.row_start.ensures c.in_default.is)

pub overflow_mul-line : goal.overflow_mul-line
overflow_mul-line c = omega (arith, plane-row (goal.at.overflow_mul-line c).After-stride)

pub overflow_add-line : goal.overflow_add-line
overflow_add-line c = omega (arith, plane-row (goal.at.overflow_add-line c).After-stride)

pub overflow_add-line-2 : goal.overflow_add-line-2
overflow_add-line-2 c = omega (arith, plane-row (goal.at.overflow_add-line-2 c).After-stride)

pub slice_bounds-copy-end : goal.slice_bounds-copy-end
slice_bounds-copy-end c = omega (arith, plane-row (goal.at.slice_bounds-copy-end c).After-stride)

pub overflow_add-start : goal.overflow_add-start
overflow_add-start c = omega (arith, view-row (goal.at.overflow_add-start c).In-Some)

pub overflow_add-start-2 : goal.overflow_add-start-2
overflow_add-start-2 c = omega (arith, view-row (goal.at.overflow_add-start-2 c).In-Some)

pub slice_bounds-copy-end-2 : goal.slice_bounds-copy-end-2
slice_bounds-copy-end-2 c = omega (arith, view-row (goal.at.slice_bounds-copy-end-2 c).In-Some)

pub returns : goal.returns
returns c =
    let a = c.args in
    row_written _ _ a.row a.left a.right _ _ _ c.stride.result _ c.copy.new.dst c.stride.ensures.0 c.requires.plane_fits
    (omega (arith, c.requires.rows_inside)) (there (goal.at.returns c).In-Some).0 c.requires.ordered c.requires.inside
    (paint_over _ _ c.copy.auto.dst)
    (λ j h. ap (λ (l : List ℕ). get_or l j 0) c.copy.ensures ∙ part_sample_lem _ _ _ c.in-Some.start _ _ j (there (goal.at.returns c).In-Some).1 h)
