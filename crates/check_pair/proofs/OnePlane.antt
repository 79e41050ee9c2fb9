-- The verdict on one plane: same where every sample is right, and else the first wrong one, by row and then column. Assumes nothing.
use Prim.Native.Nat.{ℕ, ◌+◌, ◌*◌, ◌/◌, ◌%◌, ◌<◌}
use native.Mathlib.Nat.{div-add-mod'}
use native.Mathlib.Omega.{arith}
use mathlib.Core.Path.{◌≡◌, refl, sym, ap, ◌∙◌, subst}
use mathlib.Core.Bool.{Bool, true, false, cond}
use mathlib.Core.Logic.{◌↔◌, ⊎_elim}
use mathlib.Core.List.{List}
use lib.Dec.{ltb}
use borrow.Author.Tests.{ltb-true, ltb-false, eqb-true, eqb-false, not-true, not-false}
use Rattle.lent.specs.Samples.{sample}
use Rattle.lent.proofs.Bools.{cond-true, cond-false}
use Rattle.lent.proofs.Cells.{cell_row, cell_col, cell_in, row_after, row_of, col_of}
use Rattle.lent.proofs.First.{first_holds, first_before}
use Rattle.view.specs.declared.Plane.{Plane}
use Rattle.check_pair.specs.declared.Where.{Where}
use Rattle.check_pair.specs.declared.Verdict.TheVariants.{Same, Wrong}
use Rattle.check_pair.specs.Verdict.{cell_wrong, first_in, where_of, plane_verdict_of}
use Rattle.check_pair.specs.Places.{Before}
use Rattle.check_pair.proofs.Order.{Tells}

abbrev pub where_at : ℕ → ℕ → ℕ → ℕ → Where
where_at v i r c = record { view = v; plane = i; row = r; column = c }

-- the places of the plane i of the view v
abbrev pub InPlane : ℕ → ℕ → Plane → Where → Type 0
InPlane v i q k = (k.view ≡ v) × ((k.plane ≡ i) × ((k.row < q.height) × (k.column < q.width)))

module _ (Right : Where → Type 0) (v i : ℕ) (s : ℕ → ℕ → ℕ) (q : Plane) (xs : List ℕ) (is : (r c : ℕ) → Right (where_at v i r c) ↔ (sample xs q.stride r c ≡ s r c)) where
  -- a sample that the walk has passed is right
  cell_right : (r c : ℕ) → c < q.width → cell_wrong s q xs (r * q.width + c) ≡ false → sample xs q.stride r c ≡ s r c
  cell_right r c h e =
      let f = eqb-true _ _ (not-false _ e) in
      sym (λ j. sample xs q.stride (cell_row q.width r c h j) (cell_col q.width r c h j)) ∙ f ∙ (λ j. s (cell_row q.width r c h j) (cell_col q.width r c h j))

  passed_right : (k : Where) → InPlane v i q k → k.row * q.width + k.column < first_in s q xs → Right k
  unfolding first_in
  passed_right k h lt =
      subst Right (sym (λ j. record { view = h.0 j; plane = h.1.0 j; row = k.row; column = k.column }))
      ((is k.row k.column).1 (cell_right k.row k.column h.1.1.1 (first_before (q.height * q.width) (cell_wrong s q xs) (k.row * q.width + k.column) lt)))

  -- the places before place n of the plane, by row and then column
  earlier : (n : ℕ) (k : Where) → InPlane v i q k → Before k (where_of v i q.width n) → k.row * q.width + k.column < n
  earlier n k h =
      let all = div-add-mod' n q.width in
      ⊎_elim
      (λ lt. absurd (omega (arith, h.0)))
      (λ e. ⊎_elim
      (λ lt. absurd (omega (arith, h.1.0)))
      (λ f. ⊎_elim
      (λ lt. omega (arith, row_after q.width k.row (n / q.width) lt, h.1.1.1))
      (λ g. let row = ap (λ (r : ℕ). r * q.width) g.0 in omega (arith, g.1))
      f.1)
      e.1)

  pub plane_tells : Tells Right (InPlane v i q) (plane_verdict_of v i s q xs)
  unfolding first_in plane_verdict_of
  plane_tells = by (ltb first cells) refl
    where
      cells : ℕ
      cells = q.height * q.width

      first : ℕ
      first = first_in s q xs

      by : (b : Bool) → ltb first cells ≡ b → Tells Right (InPlane v i q) (cond (ltb first cells) (Wrong (where_of v i q.width first)) Same)
      by true e =
          let lt = ltb-true first cells e in
          subst (Tells Right (InPlane v i q)) (sym (cond-true _ (Wrong (where_of v i q.width first)) Same e)) (
            (refl, (refl, (row_of q.width q.height first lt, col_of q.width q.height first lt))),
            (
              λ right. eqb-false _ _ (not-true _ (first_holds cells (cell_wrong s q xs) lt)) ((is (first / q.width) (first % q.width)).0 right),
              λ k h before. passed_right k h (earlier first k h before),
            ),
          )
      by false e =
          let ge = ltb-false first cells e in
          subst (Tells Right (InPlane v i q)) (sym (cond-false _ (Wrong (where_of v i q.width first)) Same e))
          (λ k h. passed_right k h (omega (arith, cell_in q.width q.height k.row k.column h.1.1.0 h.1.1.1)))
