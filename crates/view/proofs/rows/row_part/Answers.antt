-- `view::rows::row_part` meets its contract: the part is cut from the plane at the start that was found, so that block, offset and bytes are
-- those of its case. It lies in the plane since its whole stride does.
-- Assumes nothing.
use Prim.Native.Nat.{ℕ, ◌+◌, ◌≤◌}
use native.Mathlib.Nat.{zero-add, add-sub_cancel_left}
use native.Mathlib.Omega.{arith}
use mathlib.Core.Path.{refl, sym, ap, ◌∙◌}
use lib.ListN.{length, take, drop}
use Rattle.view.specs.Starts.{Values, values_of, bytes_in}
use Rattle.view.proofs.RowLaws.{found_fits}
use Rattle.view.proofs.rows.row_part.Goals.{After-struct_known-1}
use Rattle.view.proofs.rows.row_part.Goals as goal

-- the row that was found ends in the plane
within : (c : After-struct_known-1) → (c.in-Some.at + c.args.p.stride ≤ length c.args.plane.now)
    × (c.args.p.width ≤ c.args.p.stride)
within c =
    found_fits _ c.args.p _ c.args.row c.requires c.find_row.ensures c.in-Some.is

pub returns-in_default : goal.returns-in_default
returns-in_default c =
    let a = c.args in
    let e = sym (ap values_of c.in_default.is) ∙ c.find_row.ensures in
    record {
      block = refl;
      offset = sym (zero-add a.plane.ref_ptr.1) ∙ ap (λ (v : Values). v.start + a.plane.ref_ptr.1) e;
      holds = ap (λ (v : Values). bytes_in v a.p.width a.plane.now) e;
    }

pub overflow_add-end : goal.overflow_add-end
overflow_add-end c = record { fits = omega (arith, within (goal.at.overflow_add-end c).After-struct_known-1) }

pub slice_bounds-result-end-2 : goal.slice_bounds-result-end-2
slice_bounds-result-end-2 c = omega (arith, within (goal.at.slice_bounds-result-end-2 c).After-struct_known-1)

pub returns : goal.returns
returns c =
    let a = c.args in
    let at = c.in-Some.at in
    let e = sym (ap values_of c.in-Some.is) ∙ c.find_row.ensures in
    record {
      block = refl;
      offset = ap (λ (v : Values). v.start + a.plane.ref_ptr.1) e;
      holds =
          ap (λ (n : ℕ). take n (drop at a.plane.now)) (add-sub_cancel_left at a.p.width)
          ∙ ap (λ (v : Values). bytes_in v a.p.width a.plane.now) e;
    }
