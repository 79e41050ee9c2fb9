-- The numbers of the call, "exactly when", in plain inequalities.
-- Assumes nothing.
use Prim.Native.Nat.{ℕ, ◌*◌, ◌/◌, ◌%◌, ◌^◌, ◌≤◌, ◌<◌}
use native.Mathlib.Omega.{arith}
use mathlib.Core.Path.{◌≡◌, refl, ap}
use mathlib.Core.Bool.{Bool, true, false, not, true≢false, false≢true}
use mathlib.Core.Logic.Iff
use mathlib.Core.Logic.{◌↔◌, ◌⊎◌}
use mathlib.Core.List.{[], ◌∷◌}
use lib.Dec.{ltb, leb, eqb}
use borrow.Author.Tests.{ltb-true, ltb-false, lt-ltb, le-ltb, leb-true, le-leb, eqb-true, eqb-false, eq-eqb, ne_eqb, leb-false, lt-leb}
use Rattle.lent.proofs.Exactly.{and_exactly, or_exactly, nor_exactly, nand_exactly}
use Rattle.lent.proofs.Refusal.{refusal_exactly}
use Rattle.wire_read.specs.Reading.{carries_luma, carries_chroma}
use Rattle.wire_write.specs.declared.number.StreamSizes.{StreamSizes}
use Rattle.wire_write.specs.Number.{bytes_for, uneven, count_large, first_carried, payload_bytes, lists_wrong, too_long, output_short, write_number_of}

-- ---- each test

differ : (a b : ℕ) → (not (eqb a b) ≡ true) ↔ (a ≡ b → ⊥)
differ a b = (λ e. eqb-false a b (go (eqb a b) e), λ h. ap not (ne_eqb a b h))
  where
    go : (t : Bool) → not t ≡ true → t ≡ false
    go true e = absurd (false≢true e)
    go false e = refl

same : (a b : ℕ) → (not (eqb a b) ≡ false) ↔ (a ≡ b)
same a b = (λ e. eqb-true a b (go (eqb a b) e), λ h. ap not (eq-eqb a b h))
  where
    go : (t : Bool) → not t ≡ false → t ≡ true
    go true e = refl
    go false e = absurd (true≢false e)

module _ (z : StreamSizes) where
  pub uneven_exactly : (uneven z ≡ true) ↔ ((z.rects % 4 ≡ 0 → ⊥) ⊎ (z.pairs ≡ 2 * (z.rects / 4) → ⊥))
  uneven_exactly = or_exactly _ _ (differ (z.rects % 4) 0) (differ z.pairs (2 * (z.rects / 4)))

  pub even_exactly : (uneven z ≡ false) ↔ ((z.rects % 4 ≡ 0) × (z.pairs ≡ 2 * (z.rects / 4)))
  even_exactly = nor_exactly _ _ (same (z.rects % 4) 0) (same z.pairs (2 * (z.rects / 4)))

module _ (kind : ℕ) (l c : StreamSizes) where
  -- a stream that is carried and whose list is not in fours, or lacks a pair or has one too many
  pub lists_exactly : (lists_wrong kind l c ≡ true) ↔ (((carries_luma kind ≡ true) × (uneven l ≡ true)) ⊎ ((carries_chroma kind ≡ true) × (uneven c ≡ true)))
  lists_exactly = or_exactly _ _ (and_exactly (carries_luma kind) (uneven l) (λ e. e, λ e. e) (λ e. e, λ e. e)) (and_exactly (carries_chroma kind) (uneven c) (λ e. e, λ e. e) (λ e. e, λ e. e))

  -- every list that is carried is in fours, with one pair for each rectangle
  pub lists_right_exactly : (lists_wrong kind l c ≡ false)
      ↔ ((carries_luma kind ≡ true → (l.rects % 4 ≡ 0) × (l.pairs ≡ 2 * (l.rects / 4))) × (carries_chroma kind ≡ true → (c.rects % 4 ≡ 0) × (c.pairs ≡ 2 * (c.rects / 4))))
  lists_right_exactly = nor_exactly _ _ (nand_exactly (carries_luma kind) (uneven l) (even_exactly l)) (nand_exactly (carries_chroma kind) (uneven c) (even_exactly c))

  pub too_long_exactly : (too_long kind l c ≡ true)
      ↔ ((2 ^ 30 ≤ bytes_for (first_carried kind l c))
      ⊎ (((carries_luma kind ≡ true) × (2 ^ 32 ≤ l.rects / 4)) ⊎ ((carries_chroma kind ≡ true) × (2 ^ 32 ≤ c.rects / 4))))
  too_long_exactly =
      or_exactly _ _ (at_least (2 ^ 30) (bytes_for (first_carried kind l c)))
      (or_exactly _ _ (and_exactly (carries_luma kind) (count_large l) (λ e. e, λ e. e) (at_least (2 ^ 32) (l.rects / 4))) (and_exactly (carries_chroma kind) (count_large c) (λ e. e, λ e. e) (at_least (2 ^ 32) (c.rects / 4))))
    where
      at_least : (a b : ℕ) → (leb a b ≡ true) ↔ (a ≤ b)
      at_least a b = (leb-true a b, le-leb a b)

  -- the first stream carried is short enough, and every count that is carried fits
  pub short_enough_exactly : (too_long kind l c ≡ false)
      ↔ ((bytes_for (first_carried kind l c) < 2 ^ 30) × ((carries_luma kind ≡ true → l.rects / 4 < 2 ^ 32) × (carries_chroma kind ≡ true → c.rects / 4 < 2 ^ 32)))
  short_enough_exactly =
      nor_exactly _ _ (not_at_least (2 ^ 30) (bytes_for (first_carried kind l c)))
      (nor_exactly _ _ (nand_exactly (carries_luma kind) (count_large l) (not_at_least (2 ^ 32) (l.rects / 4))) (nand_exactly (carries_chroma kind) (count_large c) (not_at_least (2 ^ 32) (c.rects / 4))))
    where
      not_at_least : (a b : ℕ) → (leb a b ≡ false) ↔ (b < a)
      not_at_least a b = (leb-false a b, lt-leb a b)

-- ---- the numbers

module _ (kind : ℕ) (l c : StreamSizes) (n : ℕ) where
  pub write_8_exactly : (write_number_of kind l c n ≡ 8) ↔ (2 < kind)
  unfolding write_number_of
  write_8_exactly =
      Iff.trans (refusal_exactly (ltb 2 kind) 8 ((lists_wrong kind l c, 7) ∷ (too_long kind l c, 11) ∷ (output_short kind l c n, 6) ∷ []) tt (λ e. omega arith) [] tt)
      (λ h. ltb-true _ _ h.1, λ h. (tt, lt-ltb _ _ h))

  pub write_7_exactly : (write_number_of kind l c n ≡ 7) ↔ ((kind ≤ 2) × (lists_wrong kind l c ≡ true))
  unfolding write_number_of
  write_7_exactly =
      Iff.trans (refusal_exactly (lists_wrong kind l c) 7 ((too_long kind l c, 11) ∷ (output_short kind l c n, 6) ∷ []) tt (λ e. omega arith) ((ltb 2 kind, 8) ∷ []) tt)
      (λ h. (ltb-false _ _ h.0.0, h.1), λ h. ((le-ltb _ _ h.0, tt), h.1))

  pub write_11_exactly : (write_number_of kind l c n ≡ 11) ↔ ((kind ≤ 2) × (lists_wrong kind l c ≡ false) × (too_long kind l c ≡ true))
  unfolding write_number_of
  write_11_exactly =
      Iff.trans (refusal_exactly (too_long kind l c) 11 ((output_short kind l c n, 6) ∷ []) tt (λ e. omega arith) ((ltb 2 kind, 8) ∷ (lists_wrong kind l c, 7) ∷ []) tt)
      (λ h. (ltb-false _ _ h.0.0, h.0.1.0, h.1), λ h. ((le-ltb _ _ h.0, (h.1, tt)), h.2))

  pub write_6_exactly : (write_number_of kind l c n ≡ 6)
      ↔ ((kind ≤ 2) × (lists_wrong kind l c ≡ false) × (too_long kind l c ≡ false) × (n < payload_bytes kind l c))
  unfolding write_number_of
  write_6_exactly =
      Iff.trans (refusal_exactly (output_short kind l c n) 6 [] tt (λ e. omega arith) ((ltb 2 kind, 8) ∷ (lists_wrong kind l c, 7) ∷ (too_long kind l c, 11) ∷ []) tt)
      (λ h. (ltb-false _ _ h.0.0, h.0.1.0, h.0.1.1.0, ltb-true _ _ h.1), λ h. ((le-ltb _ _ h.0, (h.1, (h.2, tt))), lt-ltb _ _ h.3))
