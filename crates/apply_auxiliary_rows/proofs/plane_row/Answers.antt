-- `apply_auxiliary_rows::plane_row` meets its contract: the row starts where it was found to start, and its whole stride lies in the plane.
-- Assumes nothing.
use borrow.Author.Rules.{rules}
use Prim.Native.Nat.{ℕ, ◌+◌, ◌-◌, ◌*◌, ◌<◌, ◌≤◌}
use native.Mathlib.Omega.{arith}
use mathlib.Core.Path.{◌≡◌, ap, ◌∙◌}
use lib.ListN.{length, take, drop}
use Rattle.lent.proofs.ByPart.{part_long}
use Rattle.view.proofs.Starts.{row_start_at, row_start_absent, row_fits}
use Rattle.apply_auxiliary_rows.proofs.plane_row.Goals.{In_ok-at}
use Rattle.apply_auxiliary_rows.proofs.plane_row.Goals as goal

-- the plane has the row
there : (f : In_ok-at) → let a = f.args in (a.row < a.p.height) × (f.in_ok-at.at ≡ a.row * a.p.stride)
there f = row_start_at _ _ _ f.row_start.ensures f.in_ok-at.was

within : (f : In_ok-at) → f.in_ok-at.at + f.args.p.width ≤ length f.args.plane.now
within f = omega (arith, (there f).1, row_fits f.args.p _ f.args.row f.requires (there f).0)

pub returns-in_err-at : goal.returns-in_err-at
returns-in_err-at c =
    let late = row_start_absent _ _ _ c.row_start.ensures c.in_err-at.was in
    search rules

pub overflow_add-result : goal.overflow_add-result
overflow_add-result c = omega (arith, within (goal.at.overflow_add-result c).In_ok-at)

pub slice_bounds-result-end : goal.slice_bounds-result-end
slice_bounds-result-end c = omega (arith, within (goal.at.slice_bounds-result-end c).In_ok-at)

pub returns : goal.returns
returns c =
    let a = c.args in
    let at = c.in_ok-at.at in
    let t = there (goal.at.returns c).In_ok-at in
    let exact : at + a.p.width - at ≡ a.p.width = omega arith in
    record {
      there = t.0;
      long = part_long a.plane.now at (at + a.p.width) (omega arith) (within (goal.at.returns c).In_ok-at) ∙ exact;
      bytes = ap (λ (n : ℕ). take n (drop at a.plane.now)) exact ∙ ap (λ (s : ℕ). take a.p.width (drop s a.plane.now)) t.1;
    }
