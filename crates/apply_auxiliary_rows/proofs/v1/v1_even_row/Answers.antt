-- `apply_auxiliary_rows::v1::v1_even_row` meets its contract: where the view has the chroma row, the odd columns below twice its width come from it,
-- U's from the view's U and V's from its V. Assumes nothing.
use borrow.Author.Rules.{rules}
use Prim.Native.Nat.{ℕ, ◌+◌, ◌*◌, ◌/◌, ◌%◌, ◌<◌, ◌≤◌, min}
use native.Mathlib.Omega.{arith}
use mathlib.Core.Path.{◌≡◌, refl, ap, ◌∙◌}
use mathlib.Core.Bool.{true}
use lib.ListN.{length}
use Rattle.lent.specs.Sizes.{half_up}
use Rattle.view.specs.View.{chroma_of}
use Rattle.view.proofs.Starts.{row_start_at, row_start_absent, row_fits}
use Rattle.layout.specs.declared.Chroma.TheVariants.{CU, CV}
use Rattle.layout.specs.declared.Layout.TheVariants.{V1}
use Rattle.layout.specs.Exists.{fed}
use Rattle.layout.proofs.Pairs.{v1_even_facts}
use Rattle.apply_auxiliary_rows.proofs.Columns.{columns_none}
use Rattle.apply_auxiliary_rows.proofs.Area.{area_room}
use Rattle.apply_auxiliary_rows.proofs.Cut.{copy_fits, odds_fit}
use Rattle.apply_auxiliary_rows.proofs.Written.{v1_even_written}
use Rattle.apply_auxiliary_rows.proofs.v1.v1_even_row.Goals.{After-min-stop, After-stride, In-Some}
use Rattle.apply_auxiliary_rows.proofs.v1.v1_even_row.Goals as goal

-- the view has the row, it starts at `at`, and it lies in both planes
there : (f : In-Some) → let a = f.args in (a.row / 2 < half_up a.frame.sizes.height) × (f.in-Some.at ≡ a.row / 2 * a.frame.sizes.chroma_stride)
there f =
    let t = row_start_at _ _ _ f.row_start.ensures f.in-Some.is in
    (omega (arith, t.0, f.half_up-high.ensures), t.1)

-- one column bounds the row
stops : (l : After-min-stop) → let a = l.args in l.min-stop.result ≡ min a.right (2 * half_up a.frame.sizes.width)
stops l =
    l.min-stop.ensures ∙ ap (λ (m : ℕ). min l.args.right (2 * m)) l.half_up-wide.ensures

-- what is written lies in the picture's planes, and what is read in the view's rows
in-planes : (n : After-stride)
    → let a = n.args in
    let end : ℕ = a.row * n.stride.result + n.min-stop.result in
    (a.left ≤ n.min-stop.result) × (end ≤ length a.u.now) × (end ≤ length a.v.now) × (end < 18446744073709551616)
in-planes n =
    let a = n.args in
    let stop : n.min-stop.result ≡ min a.right (2 * half_up a.frame.sizes.width) = n.min-stop.ensures ∙ ap (λ (m : ℕ). min a.right (2 * m)) n.half_up-wide.ensures in
    let below : n.min-stop.result ≤ a.right = omega arith in
    let in-u = area_room a.size a.u.now a.row _ _ n.requires.area_fits _ n.stride.ensures.0 _ below in
    let in-v = area_room a.size a.v.now a.row _ _ n.requires.area_fits_2 _ n.stride.ensures.0 _ below in
    let fit : length a.u.now < 18446744073709551616 = search rules in
    (omega (arith, n.if-stop-left.false), in-u, in-v, omega arith)

in_view : (l : After-min-stop)
    → let a = l.args in
    let end : ℕ = l.in-Some.at + l.min-stop.result / 2 in
    (end ≤ length a.frame.u.now) × (end ≤ length a.frame.v.now) × (end < 18446744073709551616)
in_view l =
    let a = l.args in
    let t = row_start_at _ _ _ l.row_start.ensures l.in-Some.is in
    let seen : a.row / 2 < half_up a.frame.sizes.height = omega (arith, t.0, l.half_up-high.ensures) in
    let start : l.in-Some.at ≡ a.row / 2 * a.frame.sizes.chroma_stride = t.1 in
    let of-u = (row_fits (chroma_of a.frame.sizes) _ (a.row / 2) (record { wide = l.args.frame.fits.chroma_wide; long = l.args.frame.fits.u_long }) seen).0 in
    let of-v = (row_fits (chroma_of a.frame.sizes) _ (a.row / 2) (record { wide = l.args.frame.fits.chroma_wide; long = l.args.frame.fits.v_long }) seen).0 in
    let stop = stops l in
    let wide = l.args.frame.fits.chroma_wide in
    let fit : length a.frame.u.now < 18446744073709551616 = search rules in
    (omega arith, omega arith, omega arith)

pub row_start-requires : goal.row_start-requires
row_start-requires c = rw c.half_up-high.ensures c.args.frame.fits.u_long

pub returns-in_default : goal.returns-in_default
returns-in_default c =
    let a = c.args in
    let late = row_start_absent _ _ _ c.row_start.ensures c.in_default.is in
    let none : (k : ℕ) → a.left ≤ k → k < a.right → fed V1 a.frame.sizes.width a.frame.sizes.height a.row k ≡ true → ⊥ =
    λ k l h e. omega (arith, late, c.half_up-high.ensures, v1_even_facts a.frame.sizes.width a.frame.sizes.height a.row k c.requires.row_value e) in
    record {
      u = λ vy. columns_none _ _ a.row a.left _ a.right _ _ none;
      v = λ vy. columns_none _ _ a.row a.left _ a.right _ _ none;
    }

pub returns-then-stop-left : goal.returns-then-stop-left
returns-then-stop-left c =
    let a = c.args in
    let none : (k : ℕ) → a.left ≤ k → k < a.right → fed V1 a.frame.sizes.width a.frame.sizes.height a.row k ≡ true → ⊥ =
    λ k low h e. omega (arith, c.if-stop-left.true, stops (goal.at.returns-then-stop-left c).After-min-stop, v1_even_facts a.frame.sizes.width a.frame.sizes.height a.row k c.requires.row_value e) in
    record {
      u = λ vy. columns_none _ _ a.row a.left _ a.right _ _ none;
      v = λ vy. columns_none _ _ a.row a.left _ a.right _ _ none;
    }

pub overflow_add-at : goal.overflow_add-at
overflow_add-at c = omega (arith, in_view (goal.at.overflow_add-at c).After-min-stop, in-planes (goal.at.overflow_add-at c).After-stride)

pub overflow_add-at-2 : goal.overflow_add-at-2
overflow_add-at-2 c = omega (arith, in_view (goal.at.overflow_add-at-2 c).After-min-stop, in-planes (goal.at.overflow_add-at-2 c).After-stride)

pub slice_bounds-put_odds-end-3 : goal.slice_bounds-put_odds-end-3
slice_bounds-put_odds-end-3 c = omega (arith, in_view (goal.at.slice_bounds-put_odds-end-3 c).After-min-stop, in-planes (goal.at.slice_bounds-put_odds-end-3 c).After-stride)

pub slice_bounds-put_odds-end-4 : goal.slice_bounds-put_odds-end-4
slice_bounds-put_odds-end-4 c = omega (arith, in_view (goal.at.slice_bounds-put_odds-end-4 c).After-min-stop, in-planes (goal.at.slice_bounds-put_odds-end-4 c).After-stride)

pub put_odds-requires : goal.put_odds-requires
put_odds-requires c =
    let p = c.requires.area_fits in
    let even : c.min-stop.result % 2 ≡ 0 = omega (arith, p.even_right, stops (goal.at.put_odds-requires c).After-min-stop) in record {
      u_len = copy_fits _ _ _ _ _ _ (in-planes (goal.at.put_odds-requires c).After-stride).1 (in-planes (goal.at.put_odds-requires c).After-stride).2 (in-planes (goal.at.put_odds-requires c).After-stride).0;
      odds_fit = (
        odds_fit _ _ _ _ (in-planes (goal.at.put_odds-requires c).After-stride).1 p.even_left even (in-planes (goal.at.put_odds-requires c).After-stride).0 _ _ (omega (arith, in_view (goal.at.put_odds-requires c).After-min-stop)),
        odds_fit _ _ _ _ (in-planes (goal.at.put_odds-requires c).After-stride).2 p.even_left even (in-planes (goal.at.put_odds-requires c).After-stride).0 _ _ (omega (arith, in_view (goal.at.put_odds-requires c).After-min-stop)),
      );
    }

pub returns : goal.returns
returns c =
    let a = c.args in
    let there = there (goal.at.returns c).In-Some in record {
      u = λ vy. v1_even_written CU a.size a.frame.sizes vy a.frame.u.now a.frame.v.now a.u.now c.put_odds.new.u a.row a.left a.right c.min-stop.result c.stride.result c.in-Some.at c.requires.area_fits c.stride.ensures.0 (in-planes (goal.at.returns c).After-stride).0
          a.frame.u.now (λ r k. refl) c.requires.row_value there.0 there.1 (stops (goal.at.returns c).After-min-stop) c.put_odds.ensures.u;
      v = λ vy. v1_even_written CV a.size a.frame.sizes vy a.frame.u.now a.frame.v.now a.v.now c.put_odds.new.v a.row a.left a.right c.min-stop.result c.stride.result c.in-Some.at c.requires.area_fits_2 c.stride.ensures.0 (in-planes (goal.at.returns c).After-stride).0
          a.frame.v.now (λ r k. refl) c.requires.row_value there.0 there.1 (stops (goal.at.returns c).After-min-stop) c.put_odds.ensures.v;
    }
