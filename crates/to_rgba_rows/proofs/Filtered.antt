-- How many samples of a plane the filter replaced: exactly those that it changed, none of an odd row, a part of a row more. Assumes nothing.
use Prim.Native.Nat.{ℕ, ◌+◌, ◌*◌, ◌/◌, ◌%◌, ◌-◌, ◌≤◌, ◌<◌}
use native.Mathlib.Omega.{arith}
use mathlib.Core.Path.{◌≡◌, refl, sym, ap, ◌∙◌}
use mathlib.Core.Bool.{Bool, true, false, cond, ◌&&◌, false≢true}
use mathlib.Core.Logic.{◌↔◌}
use mathlib.Core.List.{List}
use lib.Dec.{ltb, eqb}
use lib.ListN.{length, get_or, replicate, length-replicate, get_or-replicate}
use borrow.Author.Tests.{lt-ltb, le-ltb, eq-eqb}
use Rattle.colour.specs.Colour.{filtered_of, applied_of, applied_in}
use Rattle.colour.proofs.Filtering.{applied_exactly}
use Rattle.lent.specs.Counts.{one, total, count_of}
use Rattle.lent.specs.Paint.{paint}
use Rattle.lent.specs.Samples.{sample}
use Rattle.lent.proofs.Bools.{cond-true, cond-false}
use Rattle.lent.proofs.Counts.{total_more, total_same, total_zero, total_first, total_both, one_low, count_low, even_count}
use Rattle.lent.proofs.Paint.{length-paint, get_d_paint}
use Rattle.to_rgba_rows.specs.Rules.{block_of, corners_at, chroma_at, filtered_at, row_filtered_of, applied_from, filtered_from, mark_of}
use Rattle.to_rgba_rows.specs.Fits.{MarksFit}
use Rattle.to_rgba_rows.proofs.Rules.{corners_block, odd_row_off, odd_col_off}

-- ---- "exactly the samples that the filter replaced"

-- at a place that is filtered, or at one that is not
by_place : (here : Bool) (a s : ℕ) → ((here && applied_of a s) ≡ true) ↔ (cond here (filtered_of a s) a ≡ a → ⊥)
by_place true a s = applied_exactly a s
by_place false a s = (λ h. absurd (false≢true h), λ other. absurd (other refl))

pub filtered_exactly : (p : List ℕ) (stride r c : ℕ) → (filtered_at p stride r c ≡ true) ↔ (chroma_at p stride r c ≡ sample p stride r c → ⊥)
unfolding filtered_at chroma_at
filtered_exactly p stride r c = by_place (eqb (r % 2) 0 && eqb (c % 2) 0) _ _

-- ---- of a row: none, or those of its parts

-- the blocks of a part are every second of its columns
blocks_filtered : (at below n : ℕ) (p : List ℕ) → count_of ((n + 1) / 2) (λ i. applied_in (corners_at p (at + 2 * i) (below + 2 * i))) ≡ filtered_from at below n p
blocks_filtered at below n p = even_count (λ k. applied_in (corners_at p (at + k) (below + k))) n

-- their marks, of which the first ones of 32 were written over zeros
module _ (u v : List ℕ) (at below n : ℕ) (few : n ≤ 64) {marks : List ℕ}
    (now : marks ≡ paint (λ i. ltb i ((n + 1) / 2)) (mark_of u v at below) (replicate 32 0)) where
  mark_low : (i : ℕ) → mark_of u v at below i ≤ 257
  mark_low i = omega (arith, one_low (applied_in (corners_at u (at + 2 * i) (below + 2 * i))), one_low (applied_in (corners_at v (at + 2 * i) (below + 2 * i))))

  mark_at : (i : ℕ) → i < 32 → get_or marks i 0 ≡ cond (ltb i ((n + 1) / 2)) (mark_of u v at below i) 0
  mark_at i h =
      ap (λ (l : List ℕ). get_or l i 0) now
      ∙ get_d_paint _ _ (replicate 32 0) i (omega (arith, length-replicate {A = ℕ} 32 0))
      ∙ ap (λ (x : ℕ). cond (ltb i ((n + 1) / 2)) (mark_of u v at below i) x) (get_or-replicate 32 i 0 0 h)

  pub marks_fit : MarksFit marks
  marks_fit = record {
    long = ap length now ∙ length-paint _ _ _ ∙ length-replicate {A = ℕ} 32 0;
    low = λ i h. omega (arith, mark_at i h, low (ltb i ((n + 1) / 2)) i);
  }
    where
      low : (b : Bool) (i : ℕ) → cond b (mark_of u v at below i) 0 ≤ 257
      low true i = mark_low i
      low false i = omega arith

  marks_sum : total 32 (λ i. get_or marks i 0) ≡ filtered_from at below n u + 256 * filtered_from at below n v
  marks_sum =
      let rest : (n + 1) / 2 + (32 - (n + 1) / 2) ≡ 32 = omega arith in
      ap (λ (m : ℕ). total m (λ i. get_or marks i 0)) (sym rest)
      ∙ total_first ((n + 1) / 2) (32 - (n + 1) / 2)
      (λ i h. mark_at i (omega arith) ∙ cond-true (ltb i ((n + 1) / 2)) _ _ (lt-ltb i ((n + 1) / 2) h))
      (λ i h. mark_at ((n + 1) / 2 + i) (omega arith) ∙ cond-false (ltb ((n + 1) / 2 + i) ((n + 1) / 2)) _ _ (le-ltb ((n + 1) / 2 + i) ((n + 1) / 2) (omega arith)))
      ∙ total_both ((n + 1) / 2) 256 _ _
      ∙ (λ i. blocks_filtered at below n u i + 256 * blocks_filtered at below n v i)

  -- their sum has both counts, each in a byte
  pub marks_filtered : (total 32 (λ i. get_or marks i 0) % 256 ≡ filtered_from at below n u) × (total 32 (λ i. get_or marks i 0) / 256 ≡ filtered_from at below n v)
  marks_filtered = let low = count_low n (applied_from u at below) in (omega (arith, marks_sum, low), omega (arith, marks_sum, low))

module _ (stride row left : ℕ) where
  none_filtered : (n : ℕ) → ((c : ℕ) → c < n → (eqb (row % 2) 0 && eqb ((left + c) % 2) 0) ≡ false) → (p : List ℕ) → 0 ≡ row_filtered_of stride row left n p
  unfolding filtered_at
  none_filtered n off p = sym (total_zero n _ (λ c h. ap (λ (b : Bool). one (b && applied_in (block_of p stride row (left + c)))) (off c h)))

  pub odd_row_none : row % 2 ≡ 1 → (n : ℕ) (p : List ℕ) → 0 ≡ row_filtered_of stride row left n p
  odd_row_none odd n = none_filtered n (λ c h. odd_row_off row (left + c) odd)

  -- those of the first k columns are counted; in an odd row the count is low all the same
  abbrev pub Counted : List ℕ → ℕ → ℕ → Type 0
  Counted p k filtered = (filtered ≤ k) × (row % 2 ≡ 0 → filtered ≡ row_filtered_of stride row left k p)

  -- an odd first column is not filtered
  pub counted_head : (p : List ℕ) → Counted p (left % 2) 0
  counted_head p = (omega arith, λ even. none_filtered (left % 2) (λ c h. odd_col_off row (left + c) (omega arith)) p)

  module _ (k m at : ℕ) (here : at ≡ row * stride + left + k) (even-col : (left + k) % 2 ≡ 0) (p : List ℕ) where
    applied_at : row % 2 ≡ 0 → (i : ℕ) → applied_from p at (at + stride) i ≡ filtered_at p stride row (left + (k + i))
    unfolding filtered_at
    applied_at even_row i =
        let column : (left + (k + i)) % 2 ≡ i % 2 = omega arith in
        let below : at + stride + i ≡ at + i + stride = omega arith in
        rw (eq-eqb (row % 2) 0 even_row, column)
        (ap (λ (q : ℕ). eqb (i % 2) 0 && applied_in (corners_at p (at + i) q)) below
        ∙ ap (λ (s : List ℕ). eqb (i % 2) 0 && applied_in s) (corners_block stride row (left + (k + i)) (at + i) (omega arith) p))

    -- m columns more, from an even one on
    pub counted_more : (was more : ℕ) → Counted p k was → more ≡ filtered_from at (at + stride) m p → Counted p (k + m) (was + more)
    counted_more was more before now = (
      omega (arith, before.0, now, count_low m (applied_from p at (at + stride))),
      λ even. (λ t. before.1 even t + (now ∙ total_same m (λ i h. ap one (applied_at even i))) t)
          ∙ total_more k m (λ c. one (filtered_at p stride row (left + c))),
    )
