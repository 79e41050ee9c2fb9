-- `apply_main::rows::chroma_two` meets its contract: where the view has the row, each byte of its part goes to two columns of two rows of the plane,
-- and otherwise nothing is taken: the row is even, so that both are absent.
-- Assumes nothing.
use Prim.Native.Nat.{ℕ, ◌+◌, ◌*◌, ◌/◌, ◌<◌, ◌≤◌}
use native.Mathlib.Omega.{arith}
use mathlib.Core.Path.{◌≡◌, refl, ◌∙◌}
use lib.ListN.{length}
use Rattle.picture.specs.Sizes.{stride_of}
use Rattle.view.proofs.Starts.{row_start_at, row_start_absent}
use Rattle.apply_main.proofs.RowLaws.{line_fits, row_absent, two_rows_halved}
use Rattle.apply_main.proofs.rows.chroma_two.Goals.{After-stride-stride, In-Some}
use Rattle.apply_main.proofs.rows.chroma_two.Goals as goal

-- the view has the row, it starts at `found`, and it lies in the view's plane
there : (f : In-Some) → let a = f.args in (a.row / 2 < a.from.height) × (f.in-Some.start ≡ a.row / 2 * a.from.stride)
there f = row_start_at _ _ _ f.row_start.ensures f.in-Some.is

view-row : (f : In-Some) → let a = f.args in f.in-Some.start + a.from.stride ≤ length a.samples.now
view-row f = omega (arith, (there f).1, line_fits _ _ _ _ _ refl f.requires.main_rows_fit.view_fits (there f).0)

-- both rows lie in the picture's plane; the code's stride is that of the size
plane-rows : (s : After-stride-stride)
    → let a = s.args in
    (s.stride-stride.result ≡ stride_of a.size) × (a.row * s.stride-stride.result + s.stride-stride.result + stride_of a.size ≤ length a.plane.now)
plane-rows s =
    let p = s.requires.main_rows_fit in
    let m : ℕ = s.stride-stride.result in
    let next : (s.args.row + 1) * m ≡ s.args.row * m + m = omega arith in
    (s.stride-stride.ensures.0, omega (arith, line_fits _ _ _ (s.args.row + 1) m s.stride-stride.ensures.0 p.plane_fits (omega (arith, p.rows_inside))))

pub returns-in_default : goal.returns-in_default
returns-in_default c =
    let late = row_start_absent _ _ _ c.row_start.ensures c.in_default.is in
    row_absent _ _ _ _ _ _ _ _ (omega arith) ∙ row_absent _ _ _ _ _ _ _ _ (omega arith)

pub overflow_mul-line : goal.overflow_mul-line
overflow_mul-line c = omega (arith, plane-rows (goal.at.overflow_mul-line c).After-stride-stride)

pub overflow_add-line : goal.overflow_add-line
overflow_add-line c = omega (arith, plane-rows (goal.at.overflow_add-line c).After-stride-stride)

pub overflow_add-first : goal.overflow_add-first
overflow_add-first c = omega (arith, view-row (goal.at.overflow_add-first c).In-Some)

pub overflow_add-end-2 : goal.overflow_add-end-2
overflow_add-end-2 c = omega (arith, view-row (goal.at.overflow_add-end-2 c).In-Some)

pub overflow_add-line-2 : goal.overflow_add-line-2
overflow_add-line-2 c = omega (arith, plane-rows (goal.at.overflow_add-line-2 c).After-stride-stride)

pub slice_bounds-spread-end : goal.slice_bounds-spread-end
slice_bounds-spread-end c = omega (arith, view-row (goal.at.slice_bounds-spread-end c).In-Some)

pub spread-requires : goal.spread-requires
spread-requires c =
    record {
      le_wide = (omega arith, omega (arith, plane-rows (goal.at.spread-requires c).After-stride-stride), omega (arith, plane-rows (goal.at.spread-requires c).After-stride-stride));
      wide_bound = omega (arith, view-row (goal.at.spread-requires c).In-Some);
    }

pub returns : goal.returns
returns c =
    let a = c.args in
    let p = c.requires.main_rows_fit in
    two_rows_halved _ _ a.row a.left a.right _ _ a.samples.now _ c.in-Some.start c.stride-stride.result c.stride-stride.ensures.0 (there (goal.at.returns c).In-Some).1 c.requires.row_value.0 c.requires.row_value.1
    p.plane_fits (omega (arith, p.rows_inside)) (omega (arith, (there (goal.at.returns c).In-Some).0)) p.ordered p.inside c.spread.ensures
