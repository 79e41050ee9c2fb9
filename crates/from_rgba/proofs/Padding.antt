-- A plane's places are the picture's own, or padding: by row, as parts of the row, and joined.
-- Assumes nothing.
use Prim.Native.Nat.{ℕ, ◌<◌, ◌≤◌}
use native.Mathlib.Omega.{arith}
use mathlib.Core.Path.{◌≡◌, refl, ap, ◌∙◌}
use mathlib.Core.Bool.{Bool, true, false, cond, not, ◌||◌}
use mathlib.Core.Logic.{⊎_elim}
use mathlib.Core.List.{List}
use lib.Dec.{ltb}
use borrow.Author.Tests.{lt-ltb, le-ltb, le-leb, lt-leb, ltb-true}
use Rattle.lent.specs.Paint.{painted, whole, within}
use Rattle.lent.specs.Sizes.{round_up}
use Rattle.lent.proofs.Bools.{split, both, both_left, both_right}
use Rattle.lent.proofs.Painted.{painted_ext, painted-painted}
use Rattle.from_rgba.specs.Rows.{inside, padding_from_of}

pub padding_in : (width height row : ℕ) → padding_from_of width height row ≤ round_up 16 width
padding_in width height row = either_way (ltb row height)
  where
    either_way : (b : Bool) → cond b width 0 ≤ round_up 16 width
    either_way true = omega arith
    either_way false = omega arith

module _ (width height row c : ℕ) where
  pub inside_row : row < height → inside width height row c ≡ within 0 width c
  unfolding inside within
  inside_row h = rw (lt-ltb row height h, le-leb 0 c (omega arith))

  pub inside_facts : inside width height row c ≡ true → (row < height) × (c < width)
  unfolding inside
  inside_facts e = (ltb-true row height (both_left _ _ e), ltb-true c width (both_right (ltb row height) _ e))

  pub inside_holds : row < height → c < width → inside width height row c ≡ true
  unfolding inside
  inside_holds hr hc = both _ _ (lt-ltb row height hr) (lt-ltb c width hc)

  pub padding_row : c < round_up 16 width → not (inside width height row c) ≡ within (padding_from_of width height row) (round_up 16 width) c
  unfolding inside within
  padding_row hc =
      ⊎_elim
      (λ lt. ⊎_elim
      (λ l. rw (lt-ltb row height lt, lt-ltb c width l, lt-leb width c l))
      (λ g. rw (lt-ltb row height lt, le-ltb c width g, le-leb width c g, lt-ltb c (round_up 16 width) hc))
      (split c width))
      (λ ge. rw (le-ltb row height ge, le-leb 0 c (omega arith), lt-ltb c (round_up 16 width) hc))
      (split row height)

other_or : (b : Bool) → (not b || b) ≡ true
other_or true = refl
other_or false = refl

-- padding, then the picture's own places: the whole plane
pub padded_plane : (width height pad : ℕ) (s : ℕ → ℕ → ℕ) (xs : List ℕ) {ps ys : List ℕ}
    → ps ≡ painted (round_up 16 width) (round_up 16 height) (λ r c. not (inside width height r c)) (λ r c. pad) xs
    → ys ≡ painted (round_up 16 width) (round_up 16 height) (inside width height) s ps
    → ys ≡ painted (round_up 16 width) (round_up 16 height) whole (λ r c. cond (inside width height r c) (s r c) pad) xs
padded_plane width height pad s xs ps-is ys-is =
    ys-is
    ∙ ap (painted (round_up 16 width) (round_up 16 height) (inside width height) s) ps-is
    ∙ painted-painted (round_up 16 width) (round_up 16 height) _ (inside width height) (λ r c. pad) s xs
    ∙ painted_ext (round_up 16 width) (round_up 16 height) _ whole _ _ xs (λ r c hr hc. other_or (inside width height r c)) (λ r c hr hc e. refl)
