-- `apply_auxiliary_rows::v2::v2_odds` meets its contract: where the view has the luma row, the odd columns below one limit come from it, U's from its
-- first half and V's from its second. Assumes nothing.
use Prim.Native.Nat.{ℕ, ◌+◌, ◌*◌, ◌/◌, ◌<◌, ◌≤◌, min}
use native.Mathlib.Omega.{arith}
use mathlib.Core.Path.{◌≡◌, refl, ap, ◌∙◌}
use mathlib.Core.Bool.{true, ◌&&◌}
use Rattle.view.specs.View.{luma_of}
use Rattle.layout.specs.declared.Chroma.TheVariants.{CU, CV}
use Rattle.layout.specs.declared.Layout.TheVariants.{V2}
use Rattle.layout.specs.Exists.{fed, v2_odds_below_of}
use Rattle.columns.specs.Turns.{odd}
use Rattle.apply_auxiliary_rows.specs.Rows.{IsRow}
use Rattle.apply_auxiliary_rows.proofs.Columns.{columns_none}
use Rattle.apply_auxiliary_rows.proofs.Area.{Inside, inside, line_part}
use Rattle.apply_auxiliary_rows.proofs.Feeds.{v2_odds_facts}
use Rattle.apply_auxiliary_rows.proofs.Written.{v2_odds_written}
use Rattle.apply_auxiliary_rows.proofs.v2.v2_odds.Goals.{After-min-stop, After-stride, Else-stop-left, In-Some}
use Rattle.apply_auxiliary_rows.proofs.v2.v2_odds.Goals as goal

-- the view has the row
there : (f : In-Some) → let a = f.args in IsRow (luma_of a.w) a.vy.now a.row f.in-Some.luma.now
there f = rw f.luma.ensures at f.in-Some.ensures

-- one column bounds the odd columns
stops : (l : After-min-stop) → let a = l.args in l.min-stop.result ≡ min a.right (v2_odds_below_of a.wide a.w.width)
stops l = let a = l.args in l.min-stop.ensures ∙ ap (λ (m : ℕ). min a.right m) l.v2_odds_below.ensures

-- what is read lies in the view's row, V's half as well as U's
in_view : (o : Else-stop-left) → let a = o.args in (a.left ≤ o.min-stop.result) × (a.wide / 2 + o.min-stop.result / 2 ≤ a.w.width)
in_view o =
    let a = o.args in
    let stop : o.min-stop.result ≡ min a.right (v2_odds_below_of a.wide a.w.width) = o.min-stop.ensures ∙ ap (λ (m : ℕ). min a.right m) o.v2_odds_below.ensures in
    (omega (arith, o.if-stop-left.false), omega (arith, o.if-stop-left.false))

-- what is written lies in the picture's planes
in-planes : (n : After-stride) → let a = n.args in Inside a.u.now a.v.now (a.row * n.stride.result) a.left n.min-stop.result
in-planes n =
    inside _ _ n.requires.area_fits n.requires.area_fits_2 n.stride.ensures.0 (omega (arith, n.if-stop-left.false)) (omega (arith, n.min-stop.ensures))

pub returns-in_default : goal.returns-in_default
returns-in_default c =
    let a = c.args in
    let late = rw c.luma.ensures at c.in_default.ensures in
    let none : (k : ℕ) → a.left ≤ k → k < a.right → (fed (V2 a.wide) a.w.width a.w.height a.row k && odd k) ≡ true → ⊥ =
    λ k l h e. omega (arith, late, v2_odds_facts a.wide a.w a.row k e) in
    record {
      u = λ vu vv. columns_none _ _ a.row a.left _ a.right _ _ none;
      v = λ vu vv. columns_none _ _ a.row a.left _ a.right _ _ none;
    }

pub returns-then-stop-left : goal.returns-then-stop-left
returns-then-stop-left c =
    let a = c.args in
    let none : (k : ℕ) → a.left ≤ k → k < a.right → (fed (V2 a.wide) a.w.width a.w.height a.row k && odd k) ≡ true → ⊥ =
    λ k low h e. omega (arith, c.if-stop-left.true, stops (goal.at.returns-then-stop-left c).After-min-stop, v2_odds_facts a.wide a.w a.row k e) in
    record {
      u = λ vu vv. columns_none _ _ a.row a.left _ a.right _ _ none;
      v = λ vu vv. columns_none _ _ a.row a.left _ a.right _ _ none;
    }

pub slice_bounds-put_odds-end : goal.slice_bounds-put_odds-end
slice_bounds-put_odds-end c = omega (arith, in-planes (goal.at.slice_bounds-put_odds-end c).After-stride)

pub slice_bounds-put_odds-end-3 : goal.slice_bounds-put_odds-end-3
slice_bounds-put_odds-end-3 c = omega (arith, in-planes (goal.at.slice_bounds-put_odds-end-3 c).After-stride)

pub returns : goal.returns
returns c =
    let a = c.args in
    let row = there (goal.at.returns c).In-Some in
    let at : ℕ = a.row * a.w.luma_stride in
    let stop : ℕ = c.min-stop.result in
    let half : ℕ = a.wide / 2 in
    let stops = stops (goal.at.returns c).After-min-stop in
    let view = in_view (goal.at.returns c).Else-stop-left in
    let low = (in-planes (goal.at.returns c).After-stride).ordered in
    let first = line_part row (a.left / 2) (stop / 2) (at + a.left / 2) (at + stop / 2) (omega arith) (omega arith) refl refl in
    let second = line_part row (half + a.left / 2) (half + stop / 2) (at + half + a.left / 2) (at + half + stop / 2) (omega arith) (omega arith) (omega arith) (omega arith) in record {
      u = λ vu vv. v2_odds_written CU a.size a.w a.vy.now vu vv a.u.now c.put_odds.new.dst a.row a.left a.right stop c.stride.result at c.requires.area_fits c.stride.ensures.0 low
          a.wide row.there (omega arith) stops (simp first at c.put_odds.ensures);
      v = λ vu vv. v2_odds_written CV a.size a.w a.vy.now vu vv a.v.now c.put_odds-2.new.dst a.row a.left a.right stop c.stride.result (at + half) c.requires.area_fits_2 c.stride.ensures.0 low
          a.wide row.there refl stops (simp second at c.put_odds-2.ensures);
    }
