-- `apply_auxiliary_rows::v1::v1_odd_row` meets its contract: where the view has both luma rows of the pair, the columns below its width come from
-- them, U's from the first and V's from the second. Assumes nothing.
use Prim.Native.Nat.{ℕ, ◌+◌, ◌*◌, ◌<◌, ◌≤◌, min}
use native.Mathlib.Omega.{arith}
use mathlib.Core.Path.{◌≡◌, refl, subst, ◌∙◌}
use mathlib.Core.Bool.{true}
use Rattle.view.specs.View.{luma_of}
use Rattle.layout.specs.declared.Chroma.TheVariants.{CU, CV}
use Rattle.layout.specs.declared.Layout.TheVariants.{V1}
use Rattle.layout.specs.Maps.{shift, upper_of}
use Rattle.layout.specs.Exists.{fed}
use Rattle.layout.proofs.Pairs.{v1_odd_facts}
use Rattle.apply_auxiliary_rows.specs.Rows.{IsRow}
use Rattle.apply_auxiliary_rows.proofs.Columns.{columns_none}
use Rattle.apply_auxiliary_rows.proofs.Area.{Inside, inside, line_part}
use Rattle.apply_auxiliary_rows.proofs.Written.{v1_odd_written}
use Rattle.apply_auxiliary_rows.proofs.v1.v1_odd_row.Goals.{After-min-stop, After-stride, In-Some, In-Some-plane_row}
use Rattle.apply_auxiliary_rows.proofs.v1.v1_odd_row.Goals as goal

-- the view has the second row of the pair, and the first
second-there : (b : In-Some) → let a = b.args in IsRow (luma_of a.frame.sizes) a.frame.y.now (upper_of a.row + shift CV 8) b.in-Some.second.now
second-there b =
    let a = b.args in
    subst (λ (n : ℕ). IsRow (luma_of a.frame.sizes) a.frame.y.now (n + 8) b.in-Some.second.now) b.upper-n.ensures (rw b.luma-plane.ensures at b.in-Some.ensures)

first-there : (f : In-Some-plane_row)
    → let a = f.args in IsRow (luma_of a.frame.sizes) a.frame.y.now (upper_of a.row + shift CU 8) f.in-Some-plane_row.first.now
first-there f =
    let a = f.args in
    let upper : f.upper-n.result ≡ upper_of a.row + 0 = omega (arith, f.upper-n.ensures) in
    subst (λ (n : ℕ). IsRow (luma_of a.frame.sizes) a.frame.y.now n f.in-Some-plane_row.first.now) upper (rw f.luma-plane.ensures at f.in-Some-plane_row.ensures)

-- the view's width bounds what is written
stops : (l : After-min-stop) → let a = l.args in l.min-stop.result ≡ min a.right a.frame.sizes.width
stops l = l.min-stop.ensures ∙ (λ i. min l.args.right (l.luma-plane.ensures i).width)

-- what is written lies in the picture's planes
in-planes : (n : After-stride) → let a = n.args in Inside a.u.now a.v.now (a.row * n.stride.result) a.left n.min-stop.result
in-planes n =
    inside _ _ n.requires.area_fits n.requires.area_fits_2 n.stride.ensures.0 (omega (arith, n.if-stop-left.false)) (omega (arith, n.min-stop.ensures))

pub returns-in_default : goal.returns-in_default
returns-in_default c =
    let a = c.args in
    let late = rw c.luma-plane.ensures at c.in_default.ensures in
    let none : (k : ℕ) → a.left ≤ k → k < a.right → fed V1 a.frame.sizes.width a.frame.sizes.height a.row k ≡ true → ⊥ =
    λ k l h e. omega (arith, late, c.upper-n.ensures, v1_odd_facts a.frame.sizes.width a.frame.sizes.height a.row k c.requires.row_value e) in
    record {
      u = λ vu vv. columns_none _ _ a.row a.left _ a.right _ _ none;
      v = λ vu vv. columns_none _ _ a.row a.left _ a.right _ _ none;
    }

pub returns-then-stop-left : goal.returns-then-stop-left
returns-then-stop-left c =
    let a = c.args in
    let none : (k : ℕ) → a.left ≤ k → k < a.right → fed V1 a.frame.sizes.width a.frame.sizes.height a.row k ≡ true → ⊥ =
    λ k low h e. omega (arith, c.if-stop-left.true, stops (goal.at.returns-then-stop-left c).After-min-stop, v1_odd_facts a.frame.sizes.width a.frame.sizes.height a.row k c.requires.row_value e) in
    record {
      u = λ vu vv. columns_none _ _ a.row a.left _ a.right _ _ none;
      v = λ vu vv. columns_none _ _ a.row a.left _ a.right _ _ none;
    }

pub slice_bounds-copy_both-end : goal.slice_bounds-copy_both-end
slice_bounds-copy_both-end c = omega (arith, in-planes (goal.at.slice_bounds-copy_both-end c).After-stride)

pub slice_bounds-copy_both-end-2 : goal.slice_bounds-copy_both-end-2
slice_bounds-copy_both-end-2 c = omega (arith, in-planes (goal.at.slice_bounds-copy_both-end-2 c).After-stride)

pub returns : goal.returns
returns c =
    let a = c.args in
    let first = first-there (goal.at.returns c).In-Some-plane_row in
    let second = second-there (goal.at.returns c).In-Some in
    let is = stops (goal.at.returns c).After-min-stop in
    let stop : ℕ = c.min-stop.result in
    let low = (in-planes (goal.at.returns c).After-stride).ordered in record {
      u = λ vu vv. v1_odd_written CU a.size a.frame.sizes a.frame.y.now vu vv a.u.now c.copy_both.new.u a.row a.left a.right stop c.stride.result _ c.requires.area_fits c.stride.ensures.0 low
          c.requires.row_value second.there refl is c.copy_both.auto.u (c.copy_both.ensures.u ∙ line_part first a.left stop _ _ (omega arith) (omega arith) refl refl);
      v = λ vu vv. v1_odd_written CV a.size a.frame.sizes a.frame.y.now vu vv a.v.now c.copy_both.new.v a.row a.left a.right stop c.stride.result _ c.requires.area_fits_2 c.stride.ensures.0 low
          c.requires.row_value second.there refl is c.copy_both.auto.v (c.copy_both.ensures.v ∙ line_part second a.left stop _ _ (omega arith) (omega arith) refl refl);
    }
