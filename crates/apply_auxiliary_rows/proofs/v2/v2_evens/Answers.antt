-- `apply_auxiliary_rows::v2::v2_evens` meets its contract: where the view has the chroma rows of an odd row, the even columns below one limit come by
-- turns from them, U's from their first halves and V's from their second. Assumes nothing.
use Prim.Native.Nat.{ℕ, ◌+◌, ◌*◌, ◌/◌, ◌%◌, ◌<◌, ◌≤◌, min}
use native.Mathlib.Omega.{arith}
use mathlib.Core.Path.{◌≡◌, refl, ap, ◌∙◌}
use mathlib.Core.Bool.{true, ◌&&◌}
use Rattle.lent.specs.Sizes.{half_up}
use Rattle.view.specs.View.{chroma_of}
use Rattle.layout.specs.declared.Chroma.TheVariants.{CU, CV}
use Rattle.layout.specs.declared.Layout.TheVariants.{V2}
use Rattle.layout.specs.Exists.{fed, v2_evens_below_of}
use Rattle.columns.specs.Turns.{even}
use Rattle.apply_auxiliary_rows.specs.Rows.{IsRow}
use Rattle.apply_auxiliary_rows.proofs.Columns.{columns_none}
use Rattle.apply_auxiliary_rows.proofs.Area.{Inside, inside, line_part}
use Rattle.apply_auxiliary_rows.proofs.Feeds.{v2_evens_facts}
use Rattle.apply_auxiliary_rows.proofs.Written.{v2_evens_written}
use Rattle.apply_auxiliary_rows.proofs.v2.v2_evens.Goals.{After-min-stop, After-stride, Else-stop-left, In-Some, In-Some-plane_row}
use Rattle.apply_auxiliary_rows.proofs.v2.v2_evens.Goals as goal

-- both chroma planes of the view have the row
u-there : (f : In-Some) → let a = f.args in IsRow (chroma_of a.frame.sizes) a.frame.u.now (a.row / 2) f.in-Some.us.now
u-there f = rw f.chroma-plane.ensures at f.in-Some.ensures

v-there : (f : In-Some-plane_row) → let a = f.args in IsRow (chroma_of a.frame.sizes) a.frame.v.now (a.row / 2) f.in-Some-plane_row.vs.now
v-there f = rw f.chroma-plane.ensures at f.in-Some-plane_row.ensures

by-odd : (f : In-Some) → f.args.row % 2 ≡ 1
by-odd f = omega arith

-- one column bounds the even columns
stops : (l : After-min-stop) → let a = l.args in l.min-stop.result ≡ min a.right (v2_evens_below_of a.wide a.frame.sizes.width)
stops l = let a = l.args in l.min-stop.ensures ∙ ap (λ (m : ℕ). min a.right m) l.v2_evens_below.ensures

-- below it both halves of the rows are there
in_view : (o : Else-stop-left)
    → let a = o.args in (a.left ≤ o.min-stop.result) × (a.wide / 4 + (o.min-stop.result / 2 + 1) / 2 ≤ half_up a.frame.sizes.width)
in_view o =
    let a = o.args in
    let stop : o.min-stop.result ≡ min a.right (v2_evens_below_of a.wide a.frame.sizes.width) = o.min-stop.ensures ∙ ap (λ (m : ℕ). min a.right m) o.v2_evens_below.ensures in
    (omega (arith, o.if-stop-left.false), omega (arith, o.if-stop-left.false))

-- what is written lies in the picture's planes
in-planes : (n : After-stride) → let a = n.args in Inside a.u.now a.v.now (a.row * n.stride.result) a.left n.min-stop.result
in-planes n =
    inside _ _ n.requires.area_fits n.requires.area_fits_2 n.stride.ensures.0 (omega (arith, n.if-stop-left.false)) (omega (arith, n.min-stop.ensures))

pub returns-then-row-ne1 : goal.returns-then-row-ne1
returns-then-row-ne1 c =
    let a = c.args in
    let none : (k : ℕ) → a.left ≤ k → k < a.right → (fed (V2 a.wide) a.frame.sizes.width a.frame.sizes.height a.row k && even k) ≡ true → ⊥ =
    λ k l h e. c.if-row-ne1.true (v2_evens_facts a.wide a.frame.sizes a.row k e).1 in
    record {
      u = λ vy. columns_none _ _ a.row a.left _ a.right _ _ none;
      v = λ vy. columns_none _ _ a.row a.left _ a.right _ _ none;
    }

pub returns-in_default : goal.returns-in_default
returns-in_default c =
    let a = c.args in
    let late = rw c.chroma-plane.ensures at c.in_default.ensures in
    let none : (k : ℕ) → a.left ≤ k → k < a.right → (fed (V2 a.wide) a.frame.sizes.width a.frame.sizes.height a.row k && even k) ≡ true → ⊥ =
    λ k l h e. omega (arith, late, v2_evens_facts a.wide a.frame.sizes a.row k e) in
    record {
      u = λ vy. columns_none _ _ a.row a.left _ a.right _ _ none;
      v = λ vy. columns_none _ _ a.row a.left _ a.right _ _ none;
    }

pub returns-then-stop-left : goal.returns-then-stop-left
returns-then-stop-left c =
    let a = c.args in
    let none : (k : ℕ) → a.left ≤ k → k < a.right → (fed (V2 a.wide) a.frame.sizes.width a.frame.sizes.height a.row k && even k) ≡ true → ⊥ =
    λ k low h e. omega (arith, c.if-stop-left.true, stops (goal.at.returns-then-stop-left c).After-min-stop, v2_evens_facts a.wide a.frame.sizes a.row k e) in
    record {
      u = λ vy. columns_none _ _ a.row a.left _ a.right _ _ none;
      v = λ vy. columns_none _ _ a.row a.left _ a.right _ _ none;
    }

pub slice_bounds-put_evens-end : goal.slice_bounds-put_evens-end
slice_bounds-put_evens-end c = omega (arith, in-planes (goal.at.slice_bounds-put_evens-end c).After-stride)

pub slice_bounds-put_evens-end-4 : goal.slice_bounds-put_evens-end-4
slice_bounds-put_evens-end-4 c = omega (arith, in-planes (goal.at.slice_bounds-put_evens-end-4 c).After-stride)

pub returns : goal.returns
returns c =
    let a = c.args in
    let stop : ℕ = c.min-stop.result in
    let b : ℕ = a.left / 4 in
    let e : ℕ = (stop / 2 + 1) / 2 in
    let quarter : ℕ = a.wide / 4 in
    let at : ℕ = a.row / 2 * a.frame.sizes.chroma_stride in
    let stops = stops (goal.at.returns c).After-min-stop in
    let view = in_view (goal.at.returns c).Else-stop-left in
    let u-row = u-there (goal.at.returns c).In-Some in
    let v-row = v-there (goal.at.returns c).In-Some-plane_row in
    let low = (in-planes (goal.at.returns c).After-stride).ordered in
    let first-u = line_part u-row b e (at + b) (at + e) (omega arith) (omega arith) refl refl in
    let first-v = line_part v-row b e (at + b) (at + e) (omega arith) (omega arith) refl refl in
    let second-u = line_part u-row (quarter + b) (quarter + e) (at + quarter + b) (at + quarter + e) (omega arith) (omega arith) (omega arith) (omega arith) in
    let second-v = line_part v-row (quarter + b) (quarter + e) (at + quarter + b) (at + quarter + e) (omega arith) (omega arith) (omega arith) (omega arith) in record {
      u = λ vy. v2_evens_written CU a.size a.frame.sizes vy a.frame.u.now a.frame.v.now a.u.now c.put_evens.new.dst a.row a.left a.right stop c.stride.result at c.requires.area_fits c.stride.ensures.0 low
          a.wide (by-odd (goal.at.returns c).In-Some) u-row.there (omega arith) stops (simp (first-u, first-v) at c.put_evens.ensures);
      v = λ vy. v2_evens_written CV a.size a.frame.sizes vy a.frame.u.now a.frame.v.now a.v.now c.put_evens-2.new.dst a.row a.left a.right stop c.stride.result (at + quarter) c.requires.area_fits_2 c.stride.ensures.0 low
          a.wide (by-odd (goal.at.returns c).In-Some) u-row.there refl stops (simp (second-u, second-v) at c.put_evens-2.ensures);
    }
