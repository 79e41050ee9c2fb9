-- What either call answers, and what its output holds then, follow from the inputs. Assumes nothing.
use Prim.Native.Nat.{ℕ}
use mathlib.Core.Path.{◌≡◌, sym, ◌∙◌}
use mathlib.Core.List.{List, [], ◌∷◌}
use lib.ListN.{length}
use Rattle.lent.specs.declared.Answer.{Answer}
use Rattle.lent.specs.Outcome.{answer_of, lent_after}
use Rattle.lent.proofs.Outcome.{outcome_unique}
use Rattle.picture.specs.declared.Size.{Size}
use Rattle.view.specs.declared.View.{View}
use Rattle.to_rgba.specs.declared.Pixels.{Pixels}
use Rattle.rects.specs.declared.Rect.{Rect}
use Rattle.to_rgba.specs.Picture.{to_rgba_count_of, filtered_in, pixels_of, to_rgba_number_of, to_rgba_of, ToRgbaOutcome}
use Rattle.to_rgba.specs.View.{view_to_rgba_count_of, view_to_rgba_number_of, view_to_rgba_of, ViewToRgbaOutcome}

module _ (y u v out : List ℕ) (rs qs : List (List ℕ)) where
  module _ (r q : Pixels) (z : Size) (rect : Rect) where
    abbrev number : ℕ
    number = to_rgba_number_of z (to_rgba_count_of z rect) (length y) (length u) (length v) (length out)

    pub to_rgba_unique : ToRgbaOutcome z y u v rect out r rs → ToRgbaOutcome z y u v rect out q qs → (r ≡ q) × (rs ≡ qs)
    to_rgba_unique = outcome_unique (λ (n : ℕ). pixels_of n (to_rgba_count_of z rect) (filtered_in z rect u) (filtered_in z rect v)) (λ n. lent_after n out (to_rgba_of z y u v rect out) ∷ []) number r q rs qs

  module _ (r q : Answer) (w : View) where
    abbrev view_number : ℕ
    view_number = view_to_rgba_number_of w (view_to_rgba_count_of w) (length y) (length u) (length v) (length out)

    pub view_to_rgba_unique : (m : ℕ → ℕ → ℕ → List ℕ) → ViewToRgbaOutcome m w y u v out r rs → ViewToRgbaOutcome m w y u v out q qs → (r ≡ q) × (rs ≡ qs)
    view_to_rgba_unique m = outcome_unique (λ (n : ℕ). answer_of n (view_to_rgba_count_of w)) (λ n. lent_after n out (view_to_rgba_of m w y u v out) ∷ []) view_number r q rs qs

    -- number and count are the same by every colour matrix
    pub view_to_rgba_answer : (m m' : ℕ → ℕ → ℕ → List ℕ) → ViewToRgbaOutcome m w y u v out r rs → ViewToRgbaOutcome m' w y u v out q qs → r ≡ q
    view_to_rgba_answer m m' one other = one.answer ∙ sym other.answer
