-- The table of numbers, "given exactly when", for a check, in the order 1, 5, then 3 and 4 of the main view, then 3 and 4 of the auxiliary one.
-- 3 and 4 stand twice in the list: each is the main view's number, or else the auxiliary view's. All in plain inequalities. A refusal says
-- nothing of the views, and a check answers one thing.
-- Assumes nothing.
use Prim.Native.Nat.{ℕ, ◌*◌, ◌<◌, ◌≤◌}
use native.Mathlib.Omega.{arith}
use mathlib.Core.Path.{◌≡◌, refl, sym, ap, ◌∙◌}
use mathlib.Core.Bool.{Bool, true, false, true≢false}
use mathlib.Core.Logic.Iff
use mathlib.Core.Logic.{◌↔◌, ◌⊎◌, inl, inr, ⊎_elim, true-and, and-true}
use mathlib.Core.List.{List, [], ◌∷◌, ◌++◌}
use lib.Dec.{eqb}
use borrow.Author.Tests.{eqb-true, eqb-false, eq-eqb, ne_eqb}
use Rattle.lent.specs.Refusal.{refusal}
use Rattle.lent.specs.Sizes.{half_up}
use Rattle.lent.proofs.Bools.{cond-true, cond-false}
use Rattle.lent.proofs.Refusal.{refusal_exactly, refusal_none}
use Rattle.picture.specs.declared.Size.{Size}
use Rattle.picture.specs.Sizes.{stride_of, rows_of, planes_short, PlanesFit}
use Rattle.picture.proofs.Sizes.{short_exactly, fit_exactly}
use Rattle.layout.specs.declared.Way.{Way}
use Rattle.view.specs.declared.View.{View}
use Rattle.view.specs.View.{narrow, plane_short, view_number_of, ViewFits}
use Rattle.view.proofs.Exactly.{view_0_exactly, view_0_plain, view_3_plain, view_4_plain}
use Rattle.split.specs.declared.number.PlaneLengths.{PlaneLengths}
use Rattle.split.specs.Number.{split_wide_of, too_large, widest_of}
use Rattle.split.specs.Split.{lengths_of}
use Rattle.split.proofs.Exactly.{large_exactly, small_exactly}
use Rattle.split_views.specs.Views.{Planes}
use Rattle.check_pair.specs.declared.Checked.{Checked}
use Rattle.check_pair.specs.declared.Verdict.{Verdict}
use Rattle.check_pair.specs.declared.Verdict.TheVariants.{Same, Sizes, Wrong}
use Rattle.check_pair.specs.Verdict.{pair_verdict_of}
use Rattle.check_pair.specs.Number.{check_number_of}
use Rattle.check_pair.specs.Checked.{refused_with, answered_of, checked_of}

-- ---- the words of the laws

-- the picture's planes are whole, and its views fit 16 bits
abbrev pub PictureSplits : Way → Size → PlaneLengths → Type 0
PictureSplits t z p = PlanesFit z p.y p.u p.v × ((z.width ≤ widest_of t) × (z.height ≤ 65520))

-- 3 and 4 of one view
abbrev pub Narrow : View → Type 0
Narrow w = (w.luma_stride < w.width) ⊎ (w.chroma_stride < half_up w.width)

abbrev pub Short : View → PlaneLengths → Type 0
Short w n =
    ((w.width ≤ w.luma_stride) × (half_up w.width ≤ w.chroma_stride))
    × (((n.y < w.height * w.luma_stride) ⊎ (n.u < half_up w.height * w.chroma_stride)) ⊎ (n.v < half_up w.height * w.chroma_stride))

abbrev pub Fits : View → PlaneLengths → Type 0
Fits w n = ViewFits w n.y n.u n.v

-- ---- the tests in order

-- a number that is not the picture's is the main view's, or where that has none the auxiliary view's
module _ (n : ℕ) (not-0 : n ≡ 0 → ⊥) (not-1 : n ≡ 1 → ⊥) (not-5 : n ≡ 5 → ⊥) (rest : List (Bool × ℕ)) where
  joined : (s l a b : Bool) → (refusal ((s, 1) ∷ (l, 5) ∷ (a, 3) ∷ (b, 4) ∷ rest) ≡ n)
      ↔ (((s ≡ false) × (l ≡ false)) × ((refusal ((a, 3) ∷ (b, 4) ∷ []) ≡ n) ⊎ ((refusal ((a, 3) ∷ (b, 4) ∷ []) ≡ 0) × (refusal rest ≡ n))))
  joined true l a b = (λ e. absurd (not-1 (sym e)), λ h. absurd (true≢false h.0.0))
  joined false true a b = (λ e. absurd (not-5 (sym e)), λ h. absurd (true≢false h.0.1))
  joined false false true b = (λ e. ((refl, refl), inl e), λ h. ⊎_elim (λ e. e) (λ g. absurd (let z : ◌≡◌ {A = ℕ} 3 0 = g.0 in omega arith)) h.1)
  joined false false false true = (λ e. ((refl, refl), inl e), λ h. ⊎_elim (λ e. e) (λ g. absurd (let z : ◌≡◌ {A = ℕ} 4 0 = g.0 in omega arith)) h.1)
  joined false false false false = (λ e. ((refl, refl), inr (refl, e)), λ h. ⊎_elim (λ e. absurd (not-0 (sym e))) (λ g. g.1) h.1)

either_of : {A B C D : Type 0} → A ↔ C → B ↔ D → (A ⊎ B) ↔ (C ⊎ D)
either_of f g = (⊎_elim (λ a. inl (f.0 a)) (λ b. inr (g.0 b)), ⊎_elim (λ c. inl (f.1 c)) (λ d. inr (g.1 d)))

module _ (t : Way) (z : Size) (p : PlaneLengths) where
  splits : ((planes_short z p.y p.u p.v ≡ false) × (too_large (split_wide_of t z) z ≡ false)) ↔ PictureSplits t z p
  splits = Iff.and (fit_exactly z p.y p.u p.v) (small_exactly t z)

module _ (t : Way) (z : Size) (p : PlaneLengths) (w : View) (m : PlaneLengths) (x : View) (a : PlaneLengths) where
  abbrev short : Bool
  short = planes_short z p.y p.u p.v

  abbrev large : Bool
  large = too_large (split_wide_of t z) z

  abbrev tests : View → PlaneLengths → List (Bool × ℕ)
  tests v n = (narrow v, 3) ∷ (plane_short v n.y n.u n.v, 4) ∷ []

  pub check_1_exactly : (check_number_of t z p w m x a ≡ 1)
      ↔ (((p.y < rows_of z * stride_of z) ⊎ (p.u < rows_of z * stride_of z)) ⊎ (p.v < rows_of z * stride_of z))
  unfolding check_number_of
  check_1_exactly =
      Iff.trans (refusal_exactly short 1 ((large, 5) ∷ (tests w m ++ tests x a)) tt (λ e. omega arith) [] tt)
      (Iff.trans true-and (short_exactly z p.y p.u p.v))

  pub check_5_exactly : (check_number_of t z p w m x a ≡ 5) ↔ (PlanesFit z p.y p.u p.v × ((widest_of t < z.width) ⊎ (65520 < z.height)))
  unfolding check_number_of
  check_5_exactly =
      Iff.trans (refusal_exactly large 5 (tests w m ++ tests x a) tt (λ e. omega arith) ((short, 1) ∷ []) tt)
      (Iff.and (Iff.trans and-true (fit_exactly z p.y p.u p.v)) (large_exactly t z))

  -- 3 and 4: the main view's, or else the auxiliary view's
  later : (n : ℕ) → (n ≡ 0 → ⊥) → (n ≡ 1 → ⊥) → (n ≡ 5 → ⊥) → (check_number_of t z p w m x a ≡ n)
      ↔ (PictureSplits t z p
      × ((view_number_of w m.y m.u m.v ≡ n) ⊎ ((view_number_of w m.y m.u m.v ≡ 0) × (view_number_of x a.y a.u a.v ≡ n))))
  unfolding check_number_of view_number_of
  later n not-0 not-1 not-5 = Iff.trans (joined n not-0 not-1 not-5 (tests x a) short large (narrow w) (plane_short w m.y m.u m.v)) (Iff.and (splits t z p) Iff.rfl)

  pub check_3_exactly : (check_number_of t z p w m x a ≡ 3) ↔ (PictureSplits t z p × (Narrow w ⊎ (Fits w m × Narrow x)))
  check_3_exactly =
      Iff.trans (later 3 (λ e. omega arith) (λ e. omega arith) (λ e. omega arith))
      (Iff.and Iff.rfl (either_of (view_3_plain w m.y m.u m.v) (Iff.and (view_0_plain w m.y m.u m.v) (view_3_plain x a.y a.u a.v))))

  pub check_4_exactly : (check_number_of t z p w m x a ≡ 4) ↔ (PictureSplits t z p × (Short w m ⊎ (Fits w m × Short x a)))
  check_4_exactly =
      Iff.trans (later 4 (λ e. omega arith) (λ e. omega arith) (λ e. omega arith))
      (Iff.and Iff.rfl (either_of (view_4_plain w m.y m.u m.v) (Iff.and (view_0_plain w m.y m.u m.v) (view_4_plain x a.y a.u a.v))))

  pub check_0_exactly : (check_number_of t z p w m x a ≡ 0) ↔ (PictureSplits t z p × (Fits w m × Fits x a))
  unfolding check_number_of
  check_0_exactly = Iff.trans (refusal_none ((short, 1) ∷ (large, 5) ∷ (tests w m ++ tests x a)) tt) (
    λ h. ((splits t z p).0 (h.0, h.1.0), ((fits w m).0 (h.1.1.0, h.1.1.1.0), (fits x a).0 (h.1.1.1.1.0, h.1.1.1.1.1.0))),
    λ h. let s = (splits t z p).1 h.0 in
        let f = (fits w m).1 h.1.0 in
        let g = (fits x a).1 h.1.1 in (s.0, (s.1, (f.0, (f.1, (g.0, (g.1, tt)))))),
  )
    where
      fits : (v : View) (n : PlaneLengths) → ((narrow v ≡ false) × (plane_short v n.y n.u n.v ≡ false)) ↔ Fits v n
      fits v n = Iff.trans (Iff.symm (view_0_exactly v n.y n.u n.v)) (view_0_plain v n.y n.u n.v)

  -- the picture of a check that is not refused splits, as a call asks it
  pub check_0_splits : check_number_of t z p w m x a ≡ 0 → (planes_short z p.y p.u p.v ≡ false) × (too_large (split_wide_of t z) z ≡ false)
  check_0_splits e = (splits t z p).1 (check_0_exactly.0 e).0

-- ---- the answer

answered_0 : (d : Verdict) → (answered_of d).number ≡ 0
answered_0 Same = refl
answered_0 Sizes = refl
answered_0 (Wrong l) = refl

module _ (t : Way) (z : Size) (p : Planes) (w : View) (m : Planes) (x : View) (a : Planes) where
  abbrev pub number_in : ℕ
  number_in = check_number_of t z (lengths_of p) w (lengths_of m) x (lengths_of a)

  -- a refusal says nothing of the views: no yes, no place
  pub refused_says_nothing : (number_in ≡ 0 → ⊥) → checked_of t z p w m x a ≡ refused_with number_in
  unfolding checked_of
  refused_says_nothing some = cond-false _ _ _ (ne_eqb _ 0 some)

  pub accepted_answers : number_in ≡ 0 → checked_of t z p w m x a ≡ answered_of (pair_verdict_of t z p w m x a)
  unfolding checked_of
  accepted_answers none = cond-true _ _ _ (eq-eqb _ 0 none)

  -- the number that is answered is that of the table
  pub number_is : (checked_of t z p w m x a).number ≡ number_in
  number_is = by (eqb number_in 0) refl
    where
      by : (b : Bool) → eqb number_in 0 ≡ b → (checked_of t z p w m x a).number ≡ number_in
      by true e = let none = eqb-true number_in 0 e in ap (λ (r : Checked). r.number) (accepted_answers none) ∙ answered_0 (pair_verdict_of t z p w m x a) ∙ sym none
      by false e = ap (λ (r : Checked). r.number) (refused_says_nothing (eqb-false number_in 0 e))

-- a check answers one thing
pub check_unique : (t : Way) (z : Size) (p : Planes) (w : View) (m : Planes) (x : View) (a : Planes) (r q : Checked)
    → r ≡ checked_of t z p w m x a → q ≡ checked_of t z p w m x a → r ≡ q
check_unique t z p w m x a r q e f = e ∙ sym f
