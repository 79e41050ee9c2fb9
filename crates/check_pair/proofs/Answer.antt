-- What an answer says of two views, exactly: yes; a place, which is the first wrong one; or no with no place, which is sizes. Assumes nothing.
use Prim.Native.Nat.{ℕ}
use mathlib.Core.Path.{◌≡◌, refl, sym, ap, ◌∙◌}
use mathlib.Core.Bool.{Bool, true, false, true≢false, false≢true}
use mathlib.Core.Logic.{◌↔◌, ◌⊎◌}
use lib.Dec.{eqb}
use borrow.Author.Tests.{eqb-true, eqb-false}
use Rattle.picture.specs.declared.Size.{Size}
use Rattle.picture.specs.Sizes.{rows_of}
use Rattle.layout.specs.declared.Way.{Way}
use Rattle.view.specs.declared.View.{View}
use Rattle.split.specs.Number.{split_wide_of}
use Rattle.split_views.specs.Views.{Planes}
use Rattle.check_pair.specs.declared.Checked.{Checked}
use Rattle.check_pair.specs.declared.Verdict.{Verdict}
use Rattle.check_pair.specs.declared.Verdict.TheVariants.{Same, Sizes, Wrong}
use Rattle.check_pair.specs.declared.Where.{Where}
use Rattle.check_pair.specs.Verdict.{pair_verdict_of}
use Rattle.check_pair.specs.Checked.{answered_of, refused_with, checked_of}
use Rattle.check_pair.specs.Places.{Visible, RightAt, SizesMatch, FirstWrongAt, place_in}
use Rattle.check_pair.proofs.Exactly.{number_in, refused_says_nothing, accepted_answers, number_is}
use Rattle.check_pair.proofs.First.{wrong_first, same_exactly, sizes_exactly}

-- ---- a verdict by its answer

yes_same : (d : Verdict) → (answered_of d).same ≡ true → d ≡ Same
yes_same Same e = refl
yes_same Sizes e = absurd (false≢true e)
yes_same (Wrong l) e = absurd (false≢true e)

named_wrong : (d : Verdict) → (answered_of d).named ≡ true → d ≡ Wrong (place_in (answered_of d))
named_wrong Same e = absurd (false≢true e)
named_wrong Sizes e = absurd (false≢true e)
named_wrong (Wrong l) e = refl

no_sizes : (d : Verdict) → (answered_of d).same ≡ false → (answered_of d).named ≡ false → d ≡ Sizes
no_sizes Same e f = absurd (true≢false e)
no_sizes Sizes e f = refl
no_sizes (Wrong l) e f = absurd (true≢false f)

module _ (t : Way) (z : Size) (p : Planes) (w : View) (m : Planes) (x : View) (a : Planes) where
  abbrev answer : Checked
  answer = checked_of t z p w m x a

  abbrev verdict : Verdict
  verdict = pair_verdict_of t z p w m x a

  -- a check that says yes, or names a place, is not a refusal
  accepted : (f : Checked → Bool) → ((n : ℕ) → f (refused_with n) ≡ false) → f answer ≡ true → number_in t z p w m x a ≡ 0
  accepted f never e = by (eqb (number_in t z p w m x a) 0) refl
    where
      by : (b : Bool) → eqb (number_in t z p w m x a) 0 ≡ b → number_in t z p w m x a ≡ 0
      by true g = eqb-true _ 0 g
      by false g = absurd (false≢true (sym (never _) ∙ sym (ap f (refused_says_nothing t z p w m x a (eqb-false _ 0 g))) ∙ e))

  answered_by : (number_in t z p w m x a ≡ 0) → {d : Verdict} → verdict ≡ d → answer ≡ answered_of d
  answered_by none e = accepted_answers t z p w m x a none ∙ ap answered_of e

  -- yes: "sizes agree with the split's and every visible sample equals it"
  pub same_says : ((checked_of t z p w m x a).same ≡ true)
      ↔ ((number_in t z p w m x a ≡ 0) × (SizesMatch t z w x × ((l : Where) → Visible t z l → RightAt t z p w m x a l)))
  same_says = (
    λ e. let none = accepted (λ r. r.same) (λ n. refl) e in
        (none, (same_exactly t z p w m x a).0 (yes_same verdict (sym (ap (λ (r : Checked). r.same) (answered_by none refl)) ∙ e))),
    λ h. ap (λ (r : Checked). r.same) (answered_by h.0 ((same_exactly t z p w m x a).1 h.1)),
  )

  -- a place is named where it is the first wrong one, and no other is
  pub named_says : (l : Where) → (((checked_of t z p w m x a).named ≡ true) × (place_in (checked_of t z p w m x a) ≡ l))
      ↔ ((number_in t z p w m x a ≡ 0) × (SizesMatch t z w x × FirstWrongAt t z p w m x a l))
  named_says l = (
    λ e. let none = accepted (λ r. r.named) (λ n. refl) e.0 in
        let is = answered_by none refl in
        let wrong = named_wrong verdict (sym (ap (λ (r : Checked). r.named) is) ∙ e.0) ∙ ap Wrong (sym (ap place_in is) ∙ e.1) in
        (none, (wrong_first t z p w m x a l).0 wrong),
    λ h. let is = answered_by h.0 ((wrong_first t z p w m x a l).1 h.1) in (ap (λ (r : Checked). r.named) is, ap place_in is),
  )

  -- neither: "a no for sizes names no place"
  pub sizes_says : (((checked_of t z p w m x a).number ≡ 0) × (((checked_of t z p w m x a).same ≡ false) × ((checked_of t z p w m x a).named ≡ false)))
      ↔ ((number_in t z p w m x a ≡ 0)
      × (((w.width ≡ split_wide_of t z → ⊥) ⊎ (w.height ≡ rows_of z → ⊥)) ⊎ ((x.width ≡ split_wide_of t z → ⊥) ⊎ (x.height ≡ rows_of z → ⊥))))
  sizes_says = (
    λ e. let none = sym (number_is t z p w m x a) ∙ e.0 in
        let is = answered_by none refl in
        (none, (sizes_exactly t z p w m x a).0 (no_sizes verdict (sym (ap (λ (r : Checked). r.same) is) ∙ e.1.0) (sym (ap (λ (r : Checked). r.named) is) ∙ e.1.1))),
    λ h. let is = answered_by h.0 ((sizes_exactly t z p w m x a).1 h.1) in
        (ap (λ (r : Checked). r.number) is, (ap (λ (r : Checked). r.same) is, ap (λ (r : Checked). r.named) is)),
  )

  -- and a no with no place has no place: all 0
  pub unnamed_says : (checked_of t z p w m x a).named ≡ false → place_in (checked_of t z p w m x a) ≡ record { view = 0; plane = 0; row = 0; column = 0 }
  unnamed_says e = by (eqb (number_in t z p w m x a) 0) refl
    where
      none_named : (d : Verdict) → (answered_of d).named ≡ false → place_in (answered_of d) ≡ record { view = 0; plane = 0; row = 0; column = 0 }
      none_named Same f = refl
      none_named Sizes f = refl
      none_named (Wrong l) f = absurd (true≢false f)

      by : (b : Bool) → eqb (number_in t z p w m x a) 0 ≡ b → place_in (checked_of t z p w m x a) ≡ record { view = 0; plane = 0; row = 0; column = 0 }
      by true g =
          let is = accepted_answers t z p w m x a (eqb-true _ 0 g) in
          ap place_in is ∙ none_named verdict (sym (ap (λ (r : Checked). r.named) is) ∙ e)
      by false g = ap place_in (refused_says_nothing t z p w m x a (eqb-false _ 0 g))
