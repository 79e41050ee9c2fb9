-- The numbers of a split, "given exactly when": lines from the laws of refusals; and 5 in plain words. Assumes nothing.
use Prim.Native.Nat.{ℕ, ◌+◌, ◌≤◌, ◌<◌}
use native.Mathlib.Omega.{arith}
use mathlib.Core.Path.{◌≡◌, sym, ◌∙◌}
use mathlib.Core.Bool.{Bool, true, false, ◌||◌, true≢false}
use mathlib.Core.Logic.Iff
use mathlib.Core.Logic.{◌⊎◌, inl, inr, ⊎_elim, ◌↔◌, true-and, and-true}
use mathlib.Core.List.{[], ◌∷◌}
use lib.Dec.{ltb}
use borrow.Author.Tests.{ltb-true, lt-ltb}
use Rattle.lent.proofs.Bools.{split, never_true, either, or_left, or_right}
use Rattle.lent.proofs.Refusal.{refusal_exactly, refusal_none}
use Rattle.picture.specs.declared.Size.{Size}
use Rattle.picture.specs.Sizes.{stride_of, rows_of, planes_short}
use Rattle.layout.specs.declared.Way.{Way}
use Rattle.layout.specs.declared.Way.TheVariants.{AsV1, AsV2}
use Rattle.layout.specs.declared.WidthRule.TheVariants.{To16, To32}
use Rattle.split.specs.declared.number.PlaneLengths.{PlaneLengths}
use Rattle.split.specs.Number.{split_wide_of, too_large, widest_of, view_short, split_number_of}

-- the three tests, in order
module _ (t : Way) (z : Size) (p m a : PlaneLengths) where
  abbrev short : Bool
  short = planes_short z p.y p.u p.v

  abbrev large : Bool
  large = too_large (split_wide_of t z) z

  abbrev full : Bool
  full = view_short (split_wide_of t z) z m || view_short (split_wide_of t z) z a

  pub split_1_exactly : (split_number_of t z p m a ≡ 1) ↔ (planes_short z p.y p.u p.v ≡ true)
  unfolding split_number_of
  split_1_exactly = Iff.trans (refusal_exactly short 1 ((large, 5) ∷ (full, 6) ∷ []) tt (λ e. omega arith) [] tt) true-and

  pub split_5_exactly : (split_number_of t z p m a ≡ 5) ↔ ((planes_short z p.y p.u p.v ≡ false) × (too_large (split_wide_of t z) z ≡ true))
  unfolding split_number_of
  split_5_exactly = Iff.trans (refusal_exactly large 5 ((full, 6) ∷ []) tt (λ e. omega arith) ((short, 1) ∷ []) tt) (Iff.and and-true Iff.rfl)

  pub split_6_exactly : (split_number_of t z p m a ≡ 6)
      ↔ (((planes_short z p.y p.u p.v ≡ false) × (too_large (split_wide_of t z) z ≡ false)) × ((view_short (split_wide_of t z) z m || view_short (split_wide_of t z) z a) ≡ true))
  unfolding split_number_of
  split_6_exactly = Iff.trans (refusal_exactly full 6 [] tt (λ e. omega arith) ((short, 1) ∷ (large, 5) ∷ []) tt) (Iff.and (Iff.and Iff.rfl and-true) Iff.rfl)

  pub split_0_exactly : (split_number_of t z p m a ≡ 0)
      ↔ ((planes_short z p.y p.u p.v ≡ false) × ((too_large (split_wide_of t z) z ≡ false) × ((view_short (split_wide_of t z) z m || view_short (split_wide_of t z) z a) ≡ false)))
  unfolding split_number_of
  split_0_exactly = Iff.trans (refusal_none ((short, 1) ∷ (large, 5) ∷ (full, 6) ∷ []) tt) (Iff.and Iff.rfl (Iff.and Iff.rfl and-true))

-- what the sides say of 5: which widths and which heights are too large
module _ (W : ℕ) (z : Size) where
  large_facts : too_large W z ≡ true → (65535 < stride_of z) ⊎ ((65535 < rows_of z) ⊎ (65535 < W))
  unfolding too_large
  large_facts e =
      ⊎_elim
      (λ f. ⊎_elim (λ s. inl (ltb-true 65535 (stride_of z) s)) (λ h. inr (inl (ltb-true 65535 (rows_of z) h))) (either (ltb 65535 (stride_of z)) _ f))
      (λ w. inr (inr (ltb-true 65535 W w)))
      (either (ltb 65535 (stride_of z) || ltb 65535 (rows_of z)) _ e)

  wide_large : 65535 < W → too_large W z ≡ true
  unfolding too_large
  wide_large h = or_right (ltb 65535 (stride_of z) || ltb 65535 (rows_of z)) _ (lt-ltb 65535 W h)

  high_large : 65535 < rows_of z → too_large W z ≡ true
  unfolding too_large
  high_large h = or_left (ltb 65535 (stride_of z) || ltb 65535 (rows_of z)) _ (or_right (ltb 65535 (stride_of z)) _ (lt-ltb 65535 (rows_of z) h))

-- "width 65,520 splits; 65,521 pads to 65,536 and is refused with 5", by the 32 rule 65,504 and 65,505; and heights: each side by itself
pub large_exactly : (t : Way) (z : Size) → (too_large (split_wide_of t z) z ≡ true) ↔ ((widest_of t < z.width) ⊎ (65520 < z.height))
large_exactly t z = (
  λ e. ⊎_elim (λ s. inl (too_wide t (inl s))) (⊎_elim (λ h. inr (omega arith)) (λ w. inl (too_wide t (inr w)))) (large_facts (split_wide_of t z) z e),
  ⊎_elim (λ w. wide_large (split_wide_of t z) z (wide_over t w)) (λ h. high_large (split_wide_of t z) z (omega arith)),
)
  where
    too_wide : (t : Way) → (65535 < stride_of z) ⊎ (65535 < split_wide_of t z) → widest_of t < z.width
    too_wide AsV1 = ⊎_elim (λ s. omega arith) (λ w. omega arith)
    too_wide (AsV2 To16) = ⊎_elim (λ s. omega arith) (λ w. omega arith)
    too_wide (AsV2 To32) = ⊎_elim (λ s. omega arith) (λ w. omega arith)

    wide_over : (t : Way) → widest_of t < z.width → 65535 < split_wide_of t z
    wide_over AsV1 h = omega arith
    wide_over (AsV2 To16) h = omega arith
    wide_over (AsV2 To32) h = omega arith

pub small_exactly : (t : Way) (z : Size) → (too_large (split_wide_of t z) z ≡ false) ↔ ((z.width ≤ widest_of t) × (z.height ≤ 65520))
small_exactly t z = (
  λ e. (
    ⊎_elim (λ lt. lt) (λ ge. absurd (true≢false (sym ((large_exactly t z).1 (inl ge)) ∙ e))) (at_most z.width (widest_of t)),
    ⊎_elim (λ lt. lt) (λ ge. absurd (true≢false (sym ((large_exactly t z).1 (inr ge)) ∙ e))) (at_most z.height 65520),
  ),
  λ s. never_true _ (λ e. ⊎_elim (λ w. omega (arith, s.0)) (λ h. omega (arith, s.1)) ((large_exactly t z).0 e)),
)
  where
    at_most : (a b : ℕ) → (a ≤ b) ⊎ (b < a)
    at_most a b = ⊎_elim (λ lt. inl (omega arith)) (λ ge. inr (omega arith)) (split a (b + 1))

-- a picture that splits has views whose sides fit 16 bits
pub sides_fit : (t : Way) (z : Size) → too_large (split_wide_of t z) z ≡ false → (split_wide_of t z < 65536) × (rows_of z < 65536)
sides_fit t z e = (
  ⊎_elim (λ lt. lt) (λ ge. absurd (true≢false (sym (wide_large (split_wide_of t z) z (omega arith)) ∙ e))) (split (split_wide_of t z) 65536),
  ⊎_elim (λ lt. lt) (λ ge. absurd (true≢false (sym (high_large (split_wide_of t z) z (omega arith)) ∙ e))) (split (rows_of z) 65536),
)

-- 5 in plain words, where it is not 1
pub split_5_plainly : (t : Way) (z : Size) (p m a : PlaneLengths) → planes_short z p.y p.u p.v ≡ false
    → (split_number_of t z p m a ≡ 5) ↔ ((widest_of t < z.width) ⊎ (65520 < z.height))
split_5_plainly t z p m a long = (λ e. (large_exactly t z).0 ((split_5_exactly t z p m a).0 e).1, λ s. (split_5_exactly t z p m a).1 (long, (large_exactly t z).1 s))
