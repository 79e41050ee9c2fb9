-- What an area takes, as facts, and the loop over its rows: the plane is painted by what the area takes in the rows below the loop's.
-- Assumes nothing.
use Prim.Native.Nat.{ℕ, ◌+◌, ◌<◌, ◌≤◌}
use native.Mathlib.Omega.{arith}
use mathlib.Core.Path.{◌≡◌, refl, sym, ap, ◌∙◌, subst}
use mathlib.Core.Bool.{true}
use mathlib.Core.List.{List}
use lib.ListN.{length}
use Rattle.lent.specs.Paint.{painted, up_to}
use Rattle.lent.proofs.Bools.{never_true, both, both_left, both_right}
use Rattle.lent.proofs.Painted.{length_painted, painted_none}
use Rattle.lent.proofs.Rows.{rows_none, rows_more, rows_all}
use Rattle.lent.proofs.Taken.{box_facts, box_holds, row_part_facts, row_part_holds}
use Rattle.view.specs.declared.View.{View}
use Rattle.layout.specs.declared.Layout.{Layout}
use Rattle.layout.specs.Exists.{fed}
use Rattle.rects.specs.declared.Area.{Area}
use Rattle.rects.specs.Rects.{in_area}
use Rattle.apply_auxiliary_rows.specs.Rows.{auxiliary_row}
use Rattle.apply_auxiliary.specs.Auxiliary.{auxiliary_in}

module _ (t : Layout) (w : View) (a : Area) where
  pub auxiliary_in_facts : (r c : ℕ) → auxiliary_in t w a r c ≡ true → (a.top ≤ r) × (r < a.bottom) × (a.left ≤ c) × (c < a.right) × (fed t w.width w.height r c ≡ true)
  unfolding auxiliary_in
  auxiliary_in_facts r c e =
      let f = box_facts a.top a.bottom a.left a.right r c (both_left (in_area a r c) _ e) in
      (f.0, f.1, f.2, f.3, both_right (in_area a r c) _ e)

  pub auxiliary_in_holds : (r c : ℕ) → a.top ≤ r → r < a.bottom → a.left ≤ c → c < a.right → fed t w.width w.height r c ≡ true → auxiliary_in t w a r c ≡ true
  unfolding auxiliary_in
  auxiliary_in_holds r c o b l h e = both (in_area a r c) _ (box_holds a.top a.bottom a.left a.right r c o b l h) e

  module _ (n m : ℕ) (s : ℕ → ℕ → ℕ) (xs : List ℕ) where
    -- the loop's invariant: ys is xs with the area's rows below `row` written
    abbrev pub AreaRows : List ℕ → ℕ → Type 0
    AreaRows ys row = (a.top ≤ row) × (length ys ≡ length xs) × (ys ≡ painted n m (up_to (auxiliary_in t w a) row) s xs)

    pub area_rows_none : AreaRows xs a.top
    area_rows_none = (omega arith, refl, rows_none n m _ s xs a.top (λ r c e. (auxiliary_in_facts r c e).0))

    pub area_rows_more : {was ys : List ℕ} (row : ℕ) → AreaRows was row → row < a.bottom → ys ≡ painted n m (auxiliary_row t w row a.left a.right) s was → AreaRows ys (row + 1)
    area_rows_more row before more one =
        let next = one
        ∙ ap (painted n m (auxiliary_row t w row a.left a.right) s) before.2
        ∙ rows_more n m (auxiliary_in t w a) s xs row (auxiliary_row t w row a.left a.right)
        (λ r c e. let f = row_part_facts _ row a.left a.right r c e in
        (f.0, auxiliary_in_holds r c (omega arith) (omega arith) f.1 f.2 (subst (λ (q : ℕ). fed t w.width w.height q c ≡ true) (sym f.0) f.3)))
        (λ c hc e. let f = auxiliary_in_facts row c e in row_part_holds _ row a.left a.right row c refl f.2 f.3 f.4) in
        (omega arith, ap length next ∙ length_painted n m _ s xs, next)

    -- two rows, one after the other
    pub area_rows_two : {was one ys : List ℕ} (row : ℕ) → AreaRows was row → row + 1 < a.bottom → one ≡ painted n m (auxiliary_row t w row a.left a.right) s was
        → ys ≡ painted n m (auxiliary_row t w (row + 1) a.left a.right) s one → AreaRows ys (row + 2)
    area_rows_two row before more first second =
        let two : row + 1 + 1 ≡ row + 2 = omega arith in
        rw two at (area_rows_more (row + 1) (area_rows_more row before (omega arith) first) more second)

    pub area_rows_all : {ys : List ℕ} (row : ℕ) → AreaRows ys row → a.bottom ≤ row → ys ≡ painted n m (auxiliary_in t w a) s xs
    area_rows_all row done end = done.2 ∙ rows_all n m _ s xs row (λ r c hr hc e. omega (arith, (auxiliary_in_facts r c e).1))

    -- no column, so nothing is taken
    pub area_none : a.right ≤ a.left → xs ≡ painted n m (auxiliary_in t w a) s xs
    area_none none = painted_none n m _ s xs (λ r c hr hc. never_true _ (λ e. let f = auxiliary_in_facts r c e in omega arith))
