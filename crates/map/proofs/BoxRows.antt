-- The loop over the rows of a box of blocks, over any source. The code of the loop keeps the map's row length and
-- not the rows that it has, so the invariant is for every number of rows that the box and the buffer allow.
-- Assumes nothing.
use Prim.Native.Nat.{ℕ, ◌+◌, ◌*◌, ◌-◌, ◌<◌, ◌≤◌}
use native.Mathlib.Nat.{le_trans, mul-le-mul_right}
use native.Mathlib.Omega.{arith}
use mathlib.Core.Path.{◌≡◌, refl, sym, ap, ◌∙◌, subst}
use mathlib.Core.List.{List, ◌++◌}
use lib.ListN.{length, get_or, take, drop}
use lib.Seq.{get_or-take, get_or-drop}
use borrow.Author.Tests.{ltb-true}
use Rattle.lent.specs.Paint.{paint, painted, every, within, up_to}
use Rattle.lent.specs.Samples.{sample}
use Rattle.lent.proofs.Bools.{same_test, never_true, both_right, cond-false}
use Rattle.lent.proofs.Painted.{length_painted, painted_at}
use Rattle.lent.proofs.PartRows.{part_more}
use Rattle.lent.proofs.Rows.{rows_none, rows_all}
use Rattle.lent.proofs.Taken.{within_facts, within_holds, box_facts, box_holds}
use Rattle.picture.specs.declared.Size.{Size}
use Rattle.rects.specs.declared.Area.{Area}
use Rattle.rects.specs.Rects.{in_area}
use Rattle.map.specs.Map.{across_of, down_of, turned_of, turned_at, BoxFits}

-- the loop's invariant: ys is xs with the box's rows below `row` written
abbrev pub BoxRows : ℕ → Area → (ℕ → ℕ → ℕ) → List ℕ → List ℕ → ℕ → Type 0
BoxRows w area s xs ys row =
    (area.top ≤ row)
    × (length ys ≡ length xs)
    × ((h : ℕ) → area.bottom ≤ h → h * w ≤ length xs → ys ≡ painted w h (up_to (in_area area) row) s xs)

-- the box lies in the buffer, and so does each of its rows; the code's row length is w
module _ (z : Size) (n : ℕ) (area : Area) (w : ℕ) (is : w ≡ across_of z) (fits : BoxFits z n area) where
  pub map_room : down_of z * w ≤ n
  map_room = subst (λ (k : ℕ). down_of z * k ≤ n) (sym is) fits.map_fits

  pub box_room : area.bottom * w ≤ n
  box_room = le_trans (mul-le-mul_right w fits.rows_inside) map_room

-- of row `row` the box takes the columns from its left edge to below its right
box_row : (area : Area) (row c : ℕ) → area.top ≤ row → row < area.bottom → in_area area row c ≡ within area.left area.right c
box_row area row c ge lt =
    same_test _ _
    (λ e. let f = box_facts _ _ _ _ row c e in within_holds _ _ c f.2 f.3)
    (λ e. let f = within_facts area.left area.right c e in box_holds _ _ _ _ row c ge lt f.0 f.1)

module _ (w : ℕ) (area : Area) (s : ℕ → ℕ → ℕ) (xs : List ℕ) where
  pub box_rows_none : BoxRows w area s xs xs area.top
  box_rows_none = (omega arith, refl, λ h in-h fits. rows_none w h _ s xs area.top (λ r c e. (box_facts _ _ _ _ r c e).0))

  -- a row that is still to come is as it was
  pub box_rows_kept : {was : List ℕ} (row c : ℕ) → BoxRows w area s xs was row → row < area.bottom → area.bottom * w ≤ length xs → c < w
      → get_or was (row * w + c) 0 ≡ get_or xs (row * w + c) 0
  unfolding up_to
  box_rows_kept row c before lt room hc =
      ap (λ (l : List ℕ). get_or l (row * w + c) 0) (before.2 area.bottom (omega arith) room)
      ∙ painted_at w area.bottom (up_to (in_area area) row) s xs row c lt hc room
      ∙ cond-false _ _ _ (never_true _ (λ e. let never : row < row = ltb-true row row (both_right (in_area area row c) _ e) in omega arith))

  -- the row's part was lent and came back written
  pub box_rows_more : {was is ys : List ℕ} (row a e : ℕ) (u : ℕ → ℕ) → BoxRows w area s xs was row → row < area.bottom → area.bottom * w ≤ length xs
      → area.left ≤ area.right → area.right ≤ w → a ≡ row * w + area.left → e ≡ row * w + area.right
      → ((j : ℕ) → area.left + j < area.right → u j ≡ s row (area.left + j))
      → ys ≡ paint every u (take (e - a) (drop a was))
      → is ≡ take a was ++ (ys ++ drop (e - a) (drop a was))
      → BoxRows w area s xs is (row + 1)
  box_rows_more {was} {is} row a e u before lt room ordered inside a-is e-is from now back =
      (omega arith, ap length (more area.bottom (omega arith) room) ∙ length_painted w area.bottom _ s xs, more)
    where
      more : (h : ℕ) → area.bottom ≤ h → h * w ≤ length xs → is ≡ painted w h (up_to (in_area area) (row + 1)) s xs
      more h in-h fits =
          part_more w h (in_area area) s xs fits row area.left area.right a e u (omega arith) ordered inside a-is e-is
          (λ c hc. box_row area row c before.0 lt) from (before.2 h in-h fits) now back

  pub box_rows_all : {ys : List ℕ} (h row : ℕ) → BoxRows w area s xs ys row → area.bottom ≤ row → area.bottom ≤ h → h * w ≤ length xs
      → ys ≡ painted w h (in_area area) s xs
  box_rows_all h row done end in-h fits =
      done.2 h in-h fits ∙ rows_all w h _ s xs row (λ r c hr hc e. omega (arith, box_facts _ _ _ _ r c e))

-- a writer that reads its part: the part is the map's, as it was before the loop
pub turned_from : (w : ℕ) (area : Area) (m : List ℕ) {was : List ℕ} (row a e j : ℕ) → BoxRows w area (turned_at m w) m was row
    → row < area.bottom → area.bottom * w ≤ length m → area.right ≤ w → a ≡ row * w + area.left → e ≡ row * w + area.right
    → area.left + j < area.right
    → turned_of (get_or (take (e - a) (drop a was)) j 0) ≡ turned_at m w row (area.left + j)
unfolding turned_at sample
turned_from w area m {was} row a e j before lt room inside a-is e-is hj =
    let at : a + j ≡ row * w + (area.left + j) = omega (arith, a-is) in
    ap turned_of
    (get_or-take (e - a) (drop a was) j 0 (omega arith)
    ∙ get_or-drop a was j 0
    ∙ ap (λ (k : ℕ). get_or was k 0) at
    ∙ box_rows_kept w area (turned_at m w) m row (area.left + j) before lt room (omega arith))
