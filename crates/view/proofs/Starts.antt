-- What a row's start says: it is there exactly when the row is below the plane's height, and then the whole row lies in the plane. The
-- crates above read `row_start_at` and `row_start_absent` after a call of `row_start`.
-- Assumes nothing.
use Prim.Native.Nat.{ℕ, ◌+◌, ◌*◌, ◌≤◌, ◌<◌}
use native.Mathlib.Omega.{arith}
use mathlib.Core.Path.{◌≡◌, refl, sym, ap, ◌∙◌}
use mathlib.Core.Bool.{true≢false}
use mathlib.Core.Logic.{⊎_elim}
use lib.Dec.{ltb}
use borrow.Author.Tests.{lt-ltb, le-ltb}
use Rattle.lent.proofs.Bools.{split, cond-true, cond-false}
use Rattle.lent.proofs.Cells.{row_in}
use Rattle.view.specs.declared.Plane.{Plane}
use Rattle.std.specs.Prelude.{Option, Some, None}
use Rattle.view.specs.View.{PlaneFits}
use Rattle.view.specs.Starts.{Values, a_row, no_row, values_of, row_start_of}

-- a row is not absent
pub never : {start : ℕ} → a_row start ≡ no_row → ⊥
never e = true≢false (ap (λ (v : Values). v.present) e)

-- a start is known by its values, and so a call of `row_start` ends in one way
pub values_unique : (s t : Option ℕ) → values_of s ≡ values_of t → s ≡ t
values_unique (Some a) (Some b) e = λ i. Some (e i).start
values_unique (Some a) None e = absurd (never e)
values_unique None (Some b) e = absurd (never (sym e))
values_unique None None e = refl

module _ (stride rows r : ℕ) where
  pub row_start_unique : (s t : Option ℕ) → values_of s ≡ row_start_of stride rows r → values_of t ≡ row_start_of stride rows r → s ≡ t
  row_start_unique s t x y = values_unique s t (x ∙ sym y)

  pub row_start_holds : r < rows → row_start_of stride rows r ≡ a_row (r * stride)
  unfolding row_start_of
  row_start_holds h = cond-true (ltb r rows) _ _ (lt-ltb r rows h)

  pub row_start_none : rows ≤ r → row_start_of stride rows r ≡ no_row
  unfolding row_start_of
  row_start_none h = cond-false (ltb r rows) _ _ (le-ltb r rows h)

-- what is known after a call of `row_start`, in each case of its answer
module _ (stride rows r : ℕ) {s : Option ℕ} (says : values_of s ≡ row_start_of stride rows r) where
  pub row_start_at : {start : ℕ} → s ≡ Some start → (r < rows) × (start ≡ r * stride)
  row_start_at {start} e =
      let q : a_row start ≡ row_start_of stride rows r = sym (ap values_of e) ∙ says in
      ⊎_elim (λ h. (h, ap (λ (v : Values). v.start) (q ∙ row_start_holds stride rows r h))) (λ h. absurd (never (q ∙ row_start_none stride rows r h))) (split r rows)

  pub row_start_absent : s ≡ None → rows ≤ r
  row_start_absent e =
      let q : no_row ≡ row_start_of stride rows r = sym (ap values_of e) ∙ says in
      ⊎_elim (λ h. absurd (never (sym (q ∙ row_start_holds stride rows r h)))) (λ h. h) (split r rows)

-- a row that exists lies in the plane, and so does its whole stride
pub row_fits : (p : Plane) (len r : ℕ) → PlaneFits p len → r < p.height → (r * p.stride + p.stride ≤ len) × (p.width ≤ p.stride)
row_fits p len r f h = (omega (arith, row_in p.stride p.height r h), f.wide)
