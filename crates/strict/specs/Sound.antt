-- Sound rectangles (R86), and the first one of a list that is not (R87). The whole list is refused "if any rectangle has left not below right,
-- top not below bottom, right above width or bottom above height".
--
--   fault_of z q          0 for a sound rectangle q in a picture of the size z, else its first fault: 1 left not below right, 2 top not below
--                        bottom, 3 right above the width, 4 bottom above the height
--   Sound z q            it has none of the four, as plain inequalities (`fault_0_exactly`)
--   Faulty z q           it has one of the four
--   unsound_at z rects i  rectangle i of the list has a fault
--   unsound z rects      some rectangle of the list has one: refusal 12. An empty list has none
--   AllSound z rects     every rectangle of the list is sound; SomeFaulty z rects: some has one of the four faults
--   Unsound              an answer for a log: the number 0 or 7, whether some rectangle is unsound, and of the first such its fault and its index
--   none_unsound n        such an answer with the number n, and none present
--   first_unsound_of z rects    the answer for a list: 7 where its length is no multiple of 4, and none is looked for; else the first that is
--                        unsound, or none
use Rattle.std.specs.Prelude.{ℕ, ◌/◌, ◌<◌, ◌≤◌, Bool, true, false, cond, not, ◌⊎◌, List, [], ◌∷◌, ltb, eqb, length}
use Rattle.lent.specs.Counts.{first_where}
use Rattle.lent.specs.Paint.{some}
use Rattle.lent.specs.Refusal.{refusal}
use Rattle.picture.specs.declared.Size.{Size}
use Rattle.rects.specs.declared.Rect.{Rect}
use Rattle.rects.specs.Number.{not_fours}
use Rattle.rects.specs.Rects.{rect_at_of}
use Rattle.strict.specs.declared.Unsound.{Unsound}

unfoldable pub fault_of : Size → Rect → ℕ
fault_of z q =
    refusal ((not (ltb q.left q.right), 1) ∷ (not (ltb q.top q.bottom), 2) ∷ (ltb z.width q.right, 3) ∷ (ltb z.height q.bottom, 4) ∷ [])

pub record Sound (z : Size) (q : Rect) : Type 0 where
  pub wide : q.left < q.right
  pub high : q.top < q.bottom
  pub right_inside : q.right ≤ z.width
  pub bottom_inside : q.bottom ≤ z.height

abbrev pub Faulty : Size → Rect → Type 0
Faulty z q = ((q.right ≤ q.left) ⊎ (q.bottom ≤ q.top)) ⊎ ((z.width < q.right) ⊎ (z.height < q.bottom))

unfoldable pub unsound_at : Size → List ℕ → ℕ → Bool
unsound_at z rects i = not (eqb (fault_of z (rect_at_of rects i)) 0)

unfoldable pub unsound : Size → List ℕ → Bool
unsound z rects = some (length rects / 4) (unsound_at z rects)

abbrev pub AllSound : Size → List ℕ → Type 0
AllSound z rects = (i : ℕ) → i < length rects / 4 → Sound z (rect_at_of rects i)

abbrev pub SomeFaulty : Size → List ℕ → Type 0
SomeFaulty z rects = (i : ℕ) × ((i < length rects / 4) × Faulty z (rect_at_of rects i))

abbrev pub none_unsound : ℕ → Unsound
none_unsound n = record { number = n; present = false; fault = 0; index = 0 }

unfoldable pub first_unsound_of : Size → List ℕ → Unsound
first_unsound_of z rects =
    let k = first_where (length rects / 4) (unsound_at z rects) in
    cond (not_fours (length rects)) (none_unsound 7)
    (cond (unsound z rects) (record { number = 0; present = true; fault = fault_of z (rect_at_of rects k); index = k }) (none_unsound 0))
