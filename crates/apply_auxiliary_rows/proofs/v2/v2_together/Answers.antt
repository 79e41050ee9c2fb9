-- `apply_auxiliary_rows::v2::v2_together` meets its contract: below the limit of the odd columns the even ones exist too, so that all columns are
-- written, U's from the first halves of the view's rows and V's from their second; every early way out has written nothing and answers `left`.
-- Assumes nothing.
use Prim.Native.Nat.{ℕ, ◌+◌, ◌*◌, ◌/◌, ◌%◌, ◌<◌, ◌≤◌, min}
use native.Mathlib.Omega.{arith}
use mathlib.Core.Path.{◌≡◌, refl, ap, ◌∙◌}
use Rattle.lent.specs.Sizes.{half_up}
use Rattle.view.specs.View.{luma_of, chroma_of}
use Rattle.layout.specs.declared.Chroma.TheVariants.{CU, CV}
use Rattle.layout.specs.Exists.{v2_odds_below_of}
use Rattle.apply_auxiliary_rows.specs.Rows.{IsRow}
use Rattle.apply_auxiliary_rows.proofs.Area.{Inside, inside, line_part}
use Rattle.apply_auxiliary_rows.proofs.Limits.{odds_below_evens}
use Rattle.apply_auxiliary_rows.proofs.Written.{v2_all_written}
use Rattle.apply_auxiliary_rows.proofs.v2.v2_together.Goals.{After-stride, Else-stop-left, In-Some, In-Some-plane_row, In-Some-plane_row-2, Start}
use Rattle.apply_auxiliary_rows.proofs.v2.v2_together.Goals as goal

-- the row is odd, and one column bounds what is written
by-odd : (t : Else-stop-left) → t.args.row % 2 ≡ 1
by-odd t = omega (arith, t.if-row-eq0.false)

stops : (t : Else-stop-left) → let a = t.args in t.min-stop.result ≡ min a.right (v2_odds_below_of a.wide a.frame.sizes.width)
stops t = let a = t.args in t.min-stop.ensures ∙ ap (λ (m : ℕ). min a.right m) t.v2_odds_below.ensures

-- the view has the luma row and both chroma rows
luma_there : (f : In-Some) → let a = f.args in IsRow (luma_of a.frame.sizes) a.frame.y.now a.row f.in-Some.luma.now
luma_there f = rw f.luma.ensures at f.in-Some.ensures

u-there : (f : In-Some-plane_row) → let a = f.args in IsRow (chroma_of a.frame.sizes) a.frame.u.now (a.row / 2) f.in-Some-plane_row.u_row.now
u-there f = rw f.chroma-plane.ensures at f.in-Some-plane_row.ensures

v-there : (f : In-Some-plane_row-2) → let a = f.args in IsRow (chroma_of a.frame.sizes) a.frame.v.now (a.row / 2) f.in-Some-plane_row-2.v_row.now
v-there f = rw f.chroma-plane.ensures at f.in-Some-plane_row-2.ensures

-- what is read is in them, V's halves as well as U's
in_view : (t : Else-stop-left)
    → let a = t.args in
    let stop : ℕ = t.min-stop.result in
    (a.left ≤ stop) × (a.wide / 2 + stop / 2 ≤ a.frame.sizes.width) × (a.wide / 4 + (stop / 2 + 1) / 2 ≤ half_up a.frame.sizes.width)
in_view t =
    let a = t.args in
    let is = stops t in
    let some : 0 < t.min-stop.result = omega (arith, t.if-stop-left.false) in
    (omega (arith, t.if-stop-left.false), omega arith, omega (arith, odds_below_evens a.wide a.frame.sizes.width))

-- what is written lies in the picture's planes
in-planes : (n : After-stride) → let a = n.args in Inside a.u.now a.v.now (a.row * n.stride.result) a.left n.min-stop.result
in-planes n =
    inside _ _ n.requires.area_fits n.requires.area_fits_2 n.stride.ensures.0 (omega (arith, n.if-stop-left.false)) (omega (arith, n.min-stop.ensures))

pub slice_bounds-put_full-end : goal.slice_bounds-put_full-end
slice_bounds-put_full-end c = omega (arith, in-planes (goal.at.slice_bounds-put_full-end c).After-stride)

pub slice_bounds-put_full-end-5 : goal.slice_bounds-put_full-end-5
slice_bounds-put_full-end-5 c = omega (arith, in-planes (goal.at.slice_bounds-put_full-end-5 c).After-stride)

pub returns : goal.returns
returns c =
    let a = c.args in
    let stop : ℕ = c.min-stop.result in
    let odd-row = by-odd (goal.at.returns c).Else-stop-left in
    let stops = stops (goal.at.returns c).Else-stop-left in
    let view = in_view (goal.at.returns c).Else-stop-left in
    let luma = luma_there (goal.at.returns c).In-Some in
    let u-row = u-there (goal.at.returns c).In-Some-plane_row in
    let v-row = v-there (goal.at.returns c).In-Some-plane_row-2 in
    let half : ℕ = a.wide / 2 in
    let quarter : ℕ = a.wide / 4 in
    let on : ℕ = a.row * a.frame.sizes.luma_stride in
    let under : ℕ = a.row / 2 * a.frame.sizes.chroma_stride in
    let b : ℕ = a.left / 4 in
    let e : ℕ = (stop / 2 + 1) / 2 in
    let odds = line_part luma (a.left / 2) (stop / 2) (on + a.left / 2) (on + stop / 2) (omega arith) (omega arith) refl refl in
    let evens-u = line_part u-row b e (under + b) (under + e) (omega arith) (omega arith) refl refl in
    let evens-v = line_part v-row b e (under + b) (under + e) (omega arith) (omega arith) refl refl in
    let odds-2 = line_part luma (half + a.left / 2) (half + stop / 2) (on + half + a.left / 2) (on + half + stop / 2) (omega arith) (omega arith) (omega arith) (omega arith) in
    let evens-2-u = line_part u-row (quarter + b) (quarter + e) (under + quarter + b) (under + quarter + e) (omega arith) (omega arith) (omega arith) (omega arith) in
    let evens-2-v = line_part v-row (quarter + b) (quarter + e) (under + quarter + b) (under + quarter + e) (omega arith) (omega arith) (omega arith) (omega arith) in record {
      lower_bound = (view.0, omega (arith, stops), omega (arith, c.requires.area_fits.even_right, stops));
      u = v2_all_written CU a.size a.frame.sizes a.frame.y.now a.frame.u.now a.frame.v.now a.u.now c.put_full.new.dst a.row a.left a.right stop c.stride.result on c.requires.area_fits c.stride.ensures.0 view.0
          a.wide under odd-row luma.there u-row.there (omega arith) (omega arith) stops (simp (odds, evens-u, evens-v) at c.put_full.ensures);
      v = v2_all_written CV a.size a.frame.sizes a.frame.y.now a.frame.u.now a.frame.v.now a.v.now c.put_full-2.new.dst a.row a.left a.right stop c.stride.result (on + half) c.requires.area_fits_2 c.stride.ensures.0 view.0
          a.wide (under + quarter) odd-row luma.there u-row.there refl refl stops (simp (odds-2, evens-2-u, evens-2-v) at c.put_full-2.ensures);
    }
