-- Any plane of bytes that is averaged, whatever its padding: what the filter answers at an even-even sample, and that every other sample is its own.
-- Assumes nothing.
use Prim.Native.Nat.{ℕ, ◌+◌, ◌*◌, ◌%◌, ◌≤◌, ◌<◌}
use native.Mathlib.Omega.{arith}
use mathlib.Core.Path.{◌≡◌, sym, ap, ◌∙◌, subst}
use mathlib.Core.Bool.{true, ◌&&◌}
use mathlib.Core.Logic.{◌⊎◌, ⊎_elim}
use mathlib.Core.List.{List, [], ◌∷◌}
use lib.Dec.{eqb}
use lib.ListN.{length}
use borrow.Author.Tests.{eq-eqb}
use Rattle.lent.specs.Paint.{whole}
use Rattle.lent.specs.Samples.{sample}
use Rattle.lent.proofs.Bools.{both, cond-true, cond-false}
use Rattle.lent.proofs.Painted.{painted_at}
use Rattle.colour.specs.Colour.{filter_of, applied_in}
use Rattle.picture.specs.declared.Size.{Size}
use Rattle.picture.specs.Sizes.{stride_of, rows_of, plane_of}
use Rattle.from_rgba.specs.Averaged.{averaged}
use Rattle.from_rgba.proofs.Blocks.{averaged_at, averaged_else}
use Rattle.to_rgba_rows.specs.Rules.{block_of, chroma_at, filtered_at}
use Rattle.to_rgba_rows.proofs.Rules.{odd_row_off, odd_col_off}
use Rattle.off.specs.Off.{below, above, applied_below, applied_above, Near, Off}
use Rattle.off.proofs.Blocks.{averaged_block, answer_low, answer_high, applied_low, applied_high}

-- the block at row r, column c of a plane p
abbrev pub block_at : (ℕ → ℕ → ℕ) → ℕ → ℕ → List ℕ
block_at p r c = p r c ∷ p r (c + 1) ∷ p (r + 1) c ∷ p (r + 1) (c + 1) ∷ []

module _ (z : Size) (p : ℕ → ℕ → ℕ) (xs : List ℕ) (fits : rows_of z * stride_of z ≤ length xs) where
  abbrev plane : List ℕ
  plane = plane_of z (averaged p) xs

  holds : (r c : ℕ) → r < rows_of z → c < stride_of z → sample plane (stride_of z) r c ≡ averaged p r c
  unfolding sample
  holds r c hr hc = painted_at (stride_of z) (rows_of z) whole (averaged p) xs r c hr hc fits

  -- the three other samples of each block
  pub others_own : (r c : ℕ) → r < rows_of z → c < stride_of z → (r % 2 ≡ 1) ⊎ (c % 2 ≡ 1) → chroma_at plane (stride_of z) r c ≡ p r c
  unfolding chroma_at
  others_own r c hr hc odd =
      cond-false (eqb (r % 2) 0 && eqb (c % 2) 0) _ _ (⊎_elim (odd_row_off r c) (odd_col_off r c) odd)
      ∙ holds r c hr hc
      ∙ averaged_else p r c (λ e. ⊎_elim (λ o. omega (arith, e.0)) (λ o. omega (arith, e.1)) odd)

  module _ (r c : ℕ) (hr : r < rows_of z) (hc : c < stride_of z) (even-r : r % 2 ≡ 0) (even-c : c % 2 ≡ 0) where
    on : (eqb (r % 2) 0 && eqb (c % 2) 0) ≡ true
    on = both _ _ (eq-eqb (r % 2) 0 even-r) (eq-eqb (c % 2) 0 even-c)

    block : block_of plane (stride_of z) r c ≡ averaged_block (block_at p r c)
    block =
        let first = holds r c hr hc ∙ averaged_at p r c even-r even-c in
        let right = holds r (c + 1) hr (omega arith) ∙ averaged_else p r (c + 1) (λ e. omega (arith, e.1)) in
        let under = holds (r + 1) c (omega arith) hc ∙ averaged_else p (r + 1) c (λ e. omega (arith, e.0)) in
        let across = holds (r + 1) (c + 1) (omega arith) (omega arith) ∙ averaged_else p (r + 1) (c + 1) (λ e. omega (arith, e.1)) in
        λ i. first i ∷ right i ∷ under i ∷ across i ∷ []

    pub answer_is : chroma_at plane (stride_of z) r c ≡ filter_of (averaged_block (block_at p r c))
    unfolding chroma_at
    answer_is = cond-true (eqb (r % 2) 0 && eqb (c % 2) 0) _ _ on ∙ ap filter_of block

    pub applied_is : filtered_at plane (stride_of z) r c ≡ applied_in (averaged_block (block_at p r c))
    unfolding filtered_at
    applied_is = rw on (ap applied_in block)

    module _ (bytes : (r c : ℕ) → p r c < 256) where
      -- what holds of every block of bytes, of this one
      abbrev over : {A : ℕ → ℕ → ℕ → ℕ → Type 0} → ((x p q r : ℕ) → x < 256 → p < 256 → q < 256 → r < 256 → A x p q r)
          → A (p r c) (p r (c + 1)) (p (r + 1) c) (p (r + 1) (c + 1))
      over law = law (p r c) (p r (c + 1)) (p (r + 1) c) (p (r + 1) (c + 1)) (bytes r c) (bytes r (c + 1)) (bytes (r + 1) c) (bytes (r + 1) (c + 1))

      pub plane_off : Off below above applied_below applied_above p plane (stride_of z) r c
      plane_off = record {
        answer = subst (Near below above (p r c)) (sym answer_is) (record { low = over answer_low; high = over answer_high });
        applied = λ e.
            let t = sym applied_is ∙ e in
            subst (Near applied_below applied_above (p r c)) (sym answer_is) (record { low = over applied_low t; high = over applied_high t });
      }
