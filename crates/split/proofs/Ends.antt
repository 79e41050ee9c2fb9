-- What a split answers and what its outputs hold then follow from the inputs alone; and a picture of width or height 0 splits into empty
-- views, with no byte written. Assumes nothing.
use Prim.Native.Nat.{ℕ, ◌*◌, ◌/◌, ◌<◌, ◌≤◌}
use native.Mathlib.Nat.{mul-zero, zero-mul}
use native.Mathlib.Omega.{arith}
use mathlib.Core.Path.{◌≡◌, sym, ap, ◌∙◌}
use mathlib.Core.Bool.{false, cond, ◌||◌}
use mathlib.Core.Logic.{◌⊎◌, inl, inr, ⊎_elim, ◌↔◌}
use mathlib.Core.List.{List, [], ◌∷◌, ◌++◌}
use lib.Dec.{eqb}
use borrow.Author.Tests.{le-ltb}
use Rattle.lent.proofs.Exactly.{nor}
use Rattle.lent.specs.Outcome.{lent_after}
use Rattle.lent.specs.Paint.{painted, whole}
use Rattle.lent.specs.Sizes.{too_short}
use Rattle.lent.proofs.Bools.{cond_same}
use Rattle.lent.proofs.Outcome.{outcome_unique}
use Rattle.lent.proofs.Painted.{painted_none}
use Rattle.picture.specs.declared.Size.{Size}
use Rattle.picture.specs.Sizes.{stride_of, rows_of, planes_short}
use Rattle.layout.specs.Maps.{Part, PY, PU, PV}
use Rattle.layout.specs.declared.Way.{Way}
use Rattle.layout.specs.declared.Way.TheVariants.{AsV1, AsV2}
use Rattle.layout.specs.declared.WidthRule.TheVariants.{To16, To32}
use Rattle.split.specs.declared.number.PlaneLengths.{PlaneLengths}
use Rattle.split.specs.declared.number.Views.{Views}
use Rattle.split.proofs.Exactly.{small_exactly, split_5_plainly, split_0_exactly}
use Rattle.split.specs.Split.{Planes, lengths_of, split_layout_of, split_wide_of, widest_of, main_sample, auxiliary_sample, view_short, view_after, split_number_of, split_answer_of, split_buffers_of, SplitOutcome}

-- of `split`, in every way
pub split_unique : (t : Way) (z : Size) (p m a : Planes) (r q : Views) (rs qs : List (List ℕ)) → SplitOutcome t z p m a r rs → SplitOutcome t z p m a q qs → (r ≡ q) × (rs ≡ qs)
split_unique t z p m a = outcome_unique (λ (i : Planes). split_answer_of t z (split_number_of t z (lengths_of i) (lengths_of m) (lengths_of a))) (λ i. split_buffers_of t z i m a) p

-- ---- a picture with no pixels

abbrev pub Empty : Size → Type 0
Empty z = (z.width ≡ 0) ⊎ (z.height ≡ 0)

module _ (w h : ℕ) (none : (w ≡ 0) ⊎ (h ≡ 0)) where
  never_short : (n : ℕ) → too_short w h n ≡ false
  never_short n =
      let zero : h * w ≡ 0 = ⊎_elim (λ e. ap (λ (k : ℕ). h * k) e ∙ mul-zero h) (λ e. ap (λ (k : ℕ). k * w) e ∙ zero-mul w) none in
      le-ltb n (h * w) (omega arith)

  kept : (n : ℕ) (s : ℕ → ℕ → ℕ) (xs : List ℕ) → lent_after n xs (painted w h whole s xs) ≡ xs
  kept n s xs =
      ap (λ (l : List ℕ). cond (eqb n 0) l xs) (sym (painted_none w h whole s xs (λ r c hr hc. absurd (⊎_elim (λ e. omega arith) (λ e. omega arith) none))))
      ∙ cond_same (eqb n 0) xs

module _ (t : Way) (z : Size) (none : Empty z) where
  full_sides : (stride_of z ≡ 0) ⊎ (rows_of z ≡ 0)
  full_sides = ⊎_elim (λ e. inl (omega arith)) (λ e. inr (omega arith)) none

  no_width : (t : Way) → z.width ≡ 0 → split_wide_of t z ≡ 0
  no_width AsV1 e = omega arith
  no_width (AsV2 To16) e = omega arith
  no_width (AsV2 To32) e = omega arith

  wide_sides : (split_wide_of t z ≡ 0) ⊎ (rows_of z ≡ 0)
  wide_sides = ⊎_elim (λ e. inl (no_width t e)) (λ e. inr (omega arith)) none

  half_sides : (split_wide_of t z / 2 ≡ 0) ⊎ (rows_of z / 2 ≡ 0)
  half_sides = ⊎_elim (λ e. inl (omega (arith, no_width t e))) (λ e. inr (omega arith)) none

  planes_long : (ny nu nv : ℕ) → planes_short z ny nu nv ≡ false
  unfolding planes_short
  planes_long ny nu nv =
      let f = never_short (stride_of z) (rows_of z) full_sides in
      (nor (too_short (stride_of z) (rows_of z) ny || too_short (stride_of z) (rows_of z) nu) _).1 ((nor (too_short (stride_of z) (rows_of z) ny) _).1 (f ny, f nu), f nv)

  view_long : (n : PlaneLengths) → view_short (split_wide_of t z) z n ≡ false
  unfolding view_short
  view_long n =
      let f = never_short (split_wide_of t z / 2) (rows_of z / 2) half_sides in
      let y = never_short (split_wide_of t z) (rows_of z) wide_sides n.y in
      (nor (too_short (split_wide_of t z) (rows_of z) n.y || too_short (split_wide_of t z / 2) (rows_of z / 2) n.u) _).1 ((nor (too_short (split_wide_of t z) (rows_of z) n.y) _).1 (y, f n.u), f n.v)

  -- "65,521 .. is refused with 5, at height 0 too", by the 32 rule 65,505, and a height at width 0 too; nothing else is refused
  pub empty_5_exactly : (p m a : PlaneLengths) → (split_number_of t z p m a ≡ 5) ↔ ((widest_of t < z.width) ⊎ (65520 < z.height))
  empty_5_exactly p m a = split_5_plainly t z p m a (planes_long p.y p.u p.v)

  pub empty_accepted : (p m a : PlaneLengths) → z.width ≤ widest_of t → z.height ≤ 65520 → split_number_of t z p m a ≡ 0
  empty_accepted p m a w h =
      (split_0_exactly t z p m a).1 (planes_long p.y p.u p.v, ((small_exactly t z).1 (w, h), (nor (view_short (split_wide_of t z) z m) _).1 (view_long m, view_long a)))

  view_kept : (n : ℕ) (s : Part → ℕ → ℕ → ℕ) (o : Planes) → view_after n (split_wide_of t z) z s o ≡ (o.y ∷ o.u ∷ o.v ∷ [])
  view_kept n s o =
      let half = kept (split_wide_of t z / 2) (rows_of z / 2) half_sides n in
      λ i. kept (split_wide_of t z) (rows_of z) wide_sides n (s PY) o.y i ∷ half (s PU) o.u i ∷ half (s PV) o.v i ∷ []

  -- whatever the number, the outputs are as they were
  pub empty_kept : (p m a : Planes) → split_buffers_of t z p m a ≡ (m.y ∷ m.u ∷ m.v ∷ a.y ∷ a.u ∷ a.v ∷ [])
  unfolding split_buffers_of
  empty_kept p m a =
      let n = split_number_of t z (lengths_of p) (lengths_of m) (lengths_of a) in
      λ i. view_kept n (main_sample (stride_of z) p) m i ++ view_kept n (auxiliary_sample (split_layout_of t z) (stride_of z) p.u p.v) a i
