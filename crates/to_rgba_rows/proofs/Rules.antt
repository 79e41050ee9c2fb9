-- The pixel that a row writer reads at `at` is the rule's, for each case of row and column. Assumes nothing.
use Prim.Native.Nat.{ℕ, ◌+◌, ◌*◌, ◌%◌, ◌≤◌}
use native.Mathlib.Nat.{suc-mul}
use native.Mathlib.Numerals.{add-one}
use native.Mathlib.Omega.{arith}
use mathlib.Core.Path.{◌≡◌, ap, ◌∙◌}
use mathlib.Core.Bool.{true, false, ◌&&◌}
use mathlib.Core.List.{List, [], ◌∷◌}
use lib.Dec.{eqb}
use lib.ListN.{get_or}
use borrow.Author.Tests.{eq-eqb, eqb-true}
use Rattle.colour.specs.Colour.{reverse_of, filter_of}
use Rattle.lent.specs.Samples.{sample}
use Rattle.lent.proofs.Cells.{row_in}
use Rattle.lent.proofs.Bools.{never_true, both, both_left, both_right}
use Rattle.to_rgba_rows.specs.Rules.{block_of, corners_at, chroma_at, pixel_at}

next_row : (stride row : ℕ) → (row + 1) * stride ≡ row * stride + stride
next_row stride row = ap (λ (n : ℕ). n * stride) (add-one row) ∙ suc-mul row stride

module _ (stride row col at : ℕ) (here : at ≡ row * stride + col) where
  -- an odd row, or an odd column
  module _ (off : (eqb (row % 2) 0 && eqb (col % 2) 0) ≡ false) where
    plain_chroma : (p : List ℕ) → get_or p at 0 ≡ chroma_at p stride row col
    unfolding chroma_at sample
    plain_chroma p = rw (off, here)

    pub plain_pixel : (y u v : List ℕ) → reverse_of (get_or y at 0) (get_or u at 0) (get_or v at 0) ≡ pixel_at stride y u v row col
    unfolding pixel_at sample
    plain_pixel y u v = λ t. reverse_of (get_or y (here t) 0) (plain_chroma u t) (plain_chroma v t)

  -- the block of a sample, by the places of its corners
  pub corners_block : (p : List ℕ) → corners_at p at (at + stride) ≡ block_of p stride row col
  unfolding sample
  corners_block p =
      let b : at + 1 ≡ row * stride + (col + 1) = omega arith in
      let c : at + stride ≡ (row + 1) * stride + col = omega (arith, next_row stride row) in
      let d : at + stride + 1 ≡ (row + 1) * stride + (col + 1) = omega (arith, next_row stride row) in
      λ t. get_or p (here t) 0 ∷ get_or p (b t) 0 ∷ get_or p (c t) 0 ∷ get_or p (d t) 0 ∷ []

  -- an even row and an even column
  module _ (even_row : row % 2 ≡ 0) (even-col : col % 2 ≡ 0) where
    smooth_chroma : (p : List ℕ) → filter_of (corners_at p at (at + stride)) ≡ chroma_at p stride row col
    unfolding chroma_at
    smooth_chroma p =
        let on : (eqb (row % 2) 0 && eqb (col % 2) 0) ≡ true = both _ _ (eq-eqb (row % 2) 0 even_row) (eq-eqb (col % 2) 0 even-col) in
        rw on (ap filter_of (corners_block p))

    pub smooth_pixel : (y u v : List ℕ)
        → reverse_of (get_or y at 0) (filter_of (corners_at u at (at + stride))) (filter_of (corners_at v at (at + stride))) ≡ pixel_at stride y u v row col
    unfolding pixel_at sample
    smooth_pixel y u v = λ t. reverse_of (get_or y (here t) 0) (smooth_chroma u t) (smooth_chroma v t)

pub odd_row_off : (row col : ℕ) → row % 2 ≡ 1 → (eqb (row % 2) 0 && eqb (col % 2) 0) ≡ false
odd_row_off row col odd = never_true _ (λ e. omega (arith, eqb-true (row % 2) 0 (both_left (eqb (row % 2) 0) _ e)))

pub odd_col_off : (row col : ℕ) → col % 2 ≡ 1 → (eqb (row % 2) 0 && eqb (col % 2) 0) ≡ false
odd_col_off row col odd = never_true _ (λ e. omega (arith, eqb-true (col % 2) 0 (both_right (eqb (row % 2) 0) _ e)))

-- a row that has a row below it
pub two_rows : (stride rows row : ℕ) → row + 2 ≤ rows → row * stride + 2 * stride ≤ rows * stride
two_rows stride rows row lt = omega (arith, row_in stride rows (row + 1) (omega arith), next_row stride row)
