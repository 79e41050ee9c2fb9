-- The faults of a rectangle, "exactly when", in plain inequalities: each is the first of the four that holds, 0 is a sound rectangle, and a list
-- is unsound exactly when some rectangle of it has one of the four.
-- Assumes nothing.
use Prim.Native.Nat.{ℕ, ◌/◌, ◌<◌, ◌≤◌}
use native.Mathlib.Omega.{arith}
use mathlib.Core.Path.{◌≡◌, ap}
use mathlib.Core.Bool.{true, false, not}
use mathlib.Core.Logic.Iff
use mathlib.Core.Logic.{◌↔◌, inl, inr, ⊎_elim, true-and, and-true}
use mathlib.Core.List.{List, [], ◌∷◌}
use lib.Dec.{ltb, eqb}
use lib.ListN.{length}
use borrow.Author.Tests.{ltb-true, ltb-false, lt-ltb, le-ltb, eqb-true, eqb-false, eq-eqb, ne_eqb, not-true, not-false}
use Rattle.lent.specs.Counts.{first_where}
use Rattle.lent.proofs.Bools.{split, same_test}
use Rattle.lent.proofs.Exactly.{below}
use Rattle.lent.proofs.First.{passed_exactly, first_exactly}
use Rattle.lent.proofs.Lists.{some_facts, some_holds}
use Rattle.lent.proofs.Refusal.{refusal_exactly, refusal_none}
use Rattle.picture.specs.declared.Size.{Size}
use Rattle.rects.specs.declared.Rect.{Rect}
use Rattle.rects.specs.Rects.{rect_at_of}
use Rattle.strict.specs.Sound.{fault_of, Sound, Faulty, unsound_at, unsound, AllSound, SomeFaulty}

-- ---- one rectangle

-- "not below"
module _ (a b : ℕ) where
  reversed : (not (ltb a b) ≡ true) ↔ (b ≤ a)
  reversed = (λ e. ltb-false a b (not-true (ltb a b) e), λ h. ap not (le-ltb a b h))

  ordered : (not (ltb a b) ≡ false) ↔ (a < b)
  ordered = (λ e. ltb-true a b (not-false (ltb a b) e), λ h. ap not (lt-ltb a b h))

  not_above : (ltb a b ≡ false) ↔ (b ≤ a)
  not_above = (ltb-false a b, le-ltb a b)

module _ (z : Size) (q : Rect) where
  pub fault_1_exactly : (fault_of z q ≡ 1) ↔ (q.right ≤ q.left)
  unfolding fault_of
  fault_1_exactly =
      Iff.trans (refusal_exactly (not (ltb q.left q.right)) 1 ((not (ltb q.top q.bottom), 2) ∷ (ltb z.width q.right, 3) ∷ (ltb z.height q.bottom, 4) ∷ []) tt (λ e. omega arith) [] tt)
      (Iff.trans true-and (reversed q.left q.right))

  pub fault_2_exactly : (fault_of z q ≡ 2) ↔ ((q.left < q.right) × (q.bottom ≤ q.top))
  unfolding fault_of
  fault_2_exactly =
      Iff.trans (refusal_exactly (not (ltb q.top q.bottom)) 2 ((ltb z.width q.right, 3) ∷ (ltb z.height q.bottom, 4) ∷ []) tt (λ e. omega arith) ((not (ltb q.left q.right), 1) ∷ []) tt)
      (Iff.and (Iff.trans and-true (ordered q.left q.right)) (reversed q.top q.bottom))

  pub fault_3_exactly : (fault_of z q ≡ 3) ↔ (((q.left < q.right) × (q.top < q.bottom)) × (z.width < q.right))
  unfolding fault_of
  fault_3_exactly =
      Iff.trans (refusal_exactly (ltb z.width q.right) 3 ((ltb z.height q.bottom, 4) ∷ []) tt (λ e. omega arith) ((not (ltb q.left q.right), 1) ∷ (not (ltb q.top q.bottom), 2) ∷ []) tt)
      (Iff.and (Iff.and (ordered q.left q.right) (Iff.trans and-true (ordered q.top q.bottom))) (below z.width q.right))

  pub fault_4_exactly : (fault_of z q ≡ 4) ↔ (((q.left < q.right) × ((q.top < q.bottom) × (q.right ≤ z.width))) × (z.height < q.bottom))
  unfolding fault_of
  fault_4_exactly =
      Iff.trans (refusal_exactly (ltb z.height q.bottom) 4 [] tt (λ e. omega arith) ((not (ltb q.left q.right), 1) ∷ (not (ltb q.top q.bottom), 2) ∷ (ltb z.width q.right, 3) ∷ []) tt)
      (Iff.and (Iff.and (ordered q.left q.right) (Iff.and (ordered q.top q.bottom) (Iff.trans and-true (not_above z.width q.right)))) (below z.height q.bottom))

  pub fault_0_exactly : (fault_of z q ≡ 0) ↔ Sound z q
  unfolding fault_of
  fault_0_exactly =
      let none = refusal_none ((not (ltb q.left q.right), 1) ∷ (not (ltb q.top q.bottom), 2) ∷ (ltb z.width q.right, 3) ∷ (ltb z.height q.bottom, 4) ∷ []) tt in (
        λ e. let f = none.0 e in
            record {
              wide = (ordered q.left q.right).0 f.0;
              high = (ordered q.top q.bottom).0 f.1.0;
              right_inside = ltb-false z.width q.right f.1.1.0;
              bottom_inside = ltb-false z.height q.bottom f.1.1.1.0;
            },
        λ s. none.1 ((ordered q.left q.right).1 s.wide, ((ordered q.top q.bottom).1 s.high, (le-ltb z.width q.right s.right_inside, (le-ltb z.height q.bottom s.bottom_inside, tt)))),
      )

  -- it has a fault exactly when one of the four holds
  pub fault_exactly : (fault_of z q ≡ 0 → ⊥) ↔ Faulty z q
  fault_exactly = (
    λ some. ⊎_elim
        (λ wide. ⊎_elim
        (λ high. ⊎_elim
        (λ past. inr (inl past))
        (λ right. ⊎_elim
        (λ past. inr (inr past))
        (λ bottom. absurd (some (fault_0_exactly.1 (record { wide = wide; high = high; right_inside = right; bottom_inside = bottom }))))
        (split z.height q.bottom))
        (split z.width q.right))
        (λ flat. inl (inr flat))
        (split q.top q.bottom))
        (λ flat. inl (inl flat))
        (split q.left q.right),
    λ faulty none. let s = fault_0_exactly.0 none in
        ⊎_elim (⊎_elim (λ h. omega (arith, s.wide)) (λ h. omega (arith, s.high))) (⊎_elim (λ h. omega (arith, s.right_inside)) (λ h. omega (arith, s.bottom_inside))) faulty,
  )

-- ---- a list

module _ (z : Size) (rects : List ℕ) where
  pub unsound_at_exactly : (i : ℕ) → (unsound_at z rects i ≡ true) ↔ Faulty z (rect_at_of rects i)
  unfolding unsound_at
  unsound_at_exactly i =
      let n = fault_of z (rect_at_of rects i) in
      Iff.trans (λ e. eqb-false n 0 (not-true (eqb n 0) e), λ f. ap not (ne_eqb n 0 f)) (fault_exactly z (rect_at_of rects i))

  pub sound_at_exactly : (i : ℕ) → (unsound_at z rects i ≡ false) ↔ Sound z (rect_at_of rects i)
  unfolding unsound_at
  sound_at_exactly i =
      let n = fault_of z (rect_at_of rects i) in
      Iff.trans (λ e. eqb-true n 0 (not-false (eqb n 0) e), λ e. ap not (eq-eqb n 0 e)) (fault_0_exactly z (rect_at_of rects i))

  pub unsound_exactly : (unsound z rects ≡ true) ↔ SomeFaulty z rects
  unfolding unsound
  unsound_exactly = (
    λ e. let f = some_facts (length rects / 4) (unsound_at z rects) e in (f.0, (f.1.0, (unsound_at_exactly f.0).0 f.1.1)),
    λ f. some_holds (length rects / 4) (unsound_at z rects) f.0 f.1.0 ((unsound_at_exactly f.0).1 f.1.1),
  )

  -- it is not exactly when every rectangle is sound
  pub sound_exactly : (unsound z rects ≡ false) ↔ AllSound z rects
  unfolding unsound
  sound_exactly =
      Iff.trans (passed_exactly (length rects / 4) (unsound_at z rects))
      (λ passed i lt. (sound_at_exactly i).0 (passed i lt), λ sound i lt. (sound_at_exactly i).1 (sound i lt))

  -- and a search finds out: what it stops at is below the end exactly when there is one
  pub unsound_found : ltb (first_where (length rects / 4) (unsound_at z rects)) (length rects / 4) ≡ unsound z rects
  unfolding unsound
  unsound_found =
      let stops = first_exactly (length rects / 4) (unsound_at z rects) in
      same_test _ _ (λ e. stops.0 (ltb-true (first_where (length rects / 4) (unsound_at z rects)) (length rects / 4) e)) (λ e. lt-ltb _ _ (stops.1 e))
