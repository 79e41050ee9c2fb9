-- The loop over the rows of a box, over any source: of what is taken, the view has the rows below `seen`.
-- Assumes nothing.
use Prim.Native.Nat.{ℕ, ◌+◌, ◌<◌, ◌≤◌}
use native.Mathlib.Omega.{arith}
use mathlib.Core.Path.{◌≡◌, refl, ap, ◌∙◌}
use mathlib.Core.List.{List}
use lib.ListN.{length}
use Rattle.lent.specs.Paint.{painted, every, box, row_part, up_to}
use Rattle.lent.proofs.Bools.{never_true}
use Rattle.lent.proofs.Painted.{length_painted, painted_none}
use Rattle.lent.proofs.Rows.{rows_none, rows_more, rows_all}
use Rattle.lent.proofs.Taken.{box_facts, box_holds, row_part_facts, row_part_holds}
use Rattle.rects.specs.declared.Area.{Area}
use Rattle.rects.specs.Rects.{in_area}
use Rattle.apply_main.proofs.RowLaws.{up_to_facts, up_to_holds}

module _ (w h : ℕ) (area : Area) (seen : ℕ) (s : ℕ → ℕ → ℕ) (xs : List ℕ) where
  -- the loop's invariant: ys is xs with the area's rows below `row` written
  abbrev pub BoxRows : List ℕ → ℕ → Type 0
  BoxRows ys row = (area.top ≤ row) × (length ys ≡ length xs) × (ys ≡ painted w h (up_to (up_to (in_area area) seen) row) s xs)

  pub box_rows_none : BoxRows xs area.top
  box_rows_none = (omega arith, refl, rows_none w h _ s xs area.top (λ r c e. (box_facts _ _ _ _ r c (up_to_facts _ seen r c e).0).0))

  pub box_rows_more : {was ys : List ℕ} (row : ℕ) → BoxRows was row → row < area.bottom
      → ys ≡ painted w h (up_to (row_part every row area.left area.right) seen) s was → BoxRows ys (row + 1)
  box_rows_more row before more one =
      let next = one
      ∙ ap (painted w h (up_to (row_part every row area.left area.right) seen) s) before.2
      ∙ rows_more w h (up_to (in_area area) seen) s xs row (up_to (row_part every row area.left area.right) seen)
      (λ r c e. let u = up_to_facts _ seen r c e in
      let f = row_part_facts every row area.left area.right r c u.0 in
      (f.0, up_to_holds _ seen r c (box_holds _ _ _ _ r c (omega arith) (omega arith) f.1 f.2) u.1))
      (λ c hc e. let u = up_to_facts _ seen row c e in
      let f = box_facts _ _ _ _ row c u.0 in
      up_to_holds _ seen row c (row_part_holds every row area.left area.right row c refl f.2 f.3 refl) u.1) in
      (omega arith, ap length next ∙ length_painted w h _ s xs, next)

  -- two rows more
  pub box_rows_two : {was ys : List ℕ} (row : ℕ) → BoxRows was row → row + 1 < area.bottom
      → ys ≡ painted w h (up_to (row_part every (row + 1) area.left area.right) seen) s (painted w h (up_to (row_part every row area.left area.right) seen) s was)
      → BoxRows ys (row + 2)
  box_rows_two row before more both =
      let next : row + 1 + 1 ≡ row + 2 = omega arith in
      rw next at (box_rows_more (row + 1) (box_rows_more row before (omega arith) refl) more both)

  pub box_rows_all : {ys : List ℕ} (row : ℕ) → BoxRows ys row → area.bottom ≤ row → ys ≡ painted w h (up_to (in_area area) seen) s xs
  box_rows_all row done end =
      done.2 ∙ rows_all w h _ s xs row (λ r c hr hc e. omega (arith, box_facts _ _ _ _ r c (up_to_facts _ seen r c e).0))

-- no column, so nothing is taken
pub box_rows_empty : (w h top bottom left right seen : ℕ) (s : ℕ → ℕ → ℕ) (xs : List ℕ) → right ≤ left → xs ≡ painted w h (up_to (box top bottom left right) seen) s xs
box_rows_empty w h top bottom left right seen s xs none =
    painted_none w h _ s xs (λ r c hr hc. never_true _ (λ e. omega (arith, box_facts top bottom left right r c (up_to_facts _ seen r c e).0)))
