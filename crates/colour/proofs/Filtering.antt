-- The filter's rule, in natural numbers, and when it is applied. Assumes nothing.
use mathlib.Core.Path.{◌≡◌, refl, ◌∙◌, sym}
use mathlib.Core.Bool.{Bool, true, false, cond, not, false≢true}
use mathlib.Core.Logic.{◌↔◌, ◌⊎◌, inl, inr}
use Prim.Native.Nat.{ℕ, ◌+◌, ◌*◌, ◌-◌, ◌≤◌, ◌<◌, min}
use native.Mathlib.Decide.{dec_lt}
use native.Mathlib.Omega.{arith}
use lib.Dec.{ltb}
use borrow.Author.Tests.{lt-ltb, le-ltb, ltb-false}
use Rattle.colour.specs.Whole.{distance}
use Rattle.colour.specs.Colour.{reversed, filtered_of, applied_of, undone_of}
use Rattle.colour.proofs.Whole.{wholes}

pub reversed_is : (a s : ℕ) → reversed a s ≡ min (4 * a - s) 255
unfolding reversed
reversed_is a s = simp wholes (omega arith)

pub distance_is : (a b : ℕ) → distance a b ≡ (a - b) + (b - a)
distance_is a b = simp wholes (omega arith)

module _ (a s t : ℕ) (e : t ≡ min (4 * a - s) 255) where
  same : t ≡ reversed a s
  same = e ∙ sym (reversed_is a s)

  pub near : (t - a) + (a - t) < 30 → filtered_of a s ≡ a
  unfolding filtered_of
  near h = rw (← same, lt-ltb (distance t a) 30 (omega (arith, distance_is t a)))

  pub far : 30 ≤ (t - a) + (a - t) → filtered_of a s ≡ t
  unfolding filtered_of
  far h = rw (← same, le-ltb (distance t a) 30 (omega (arith, distance_is t a)))

  -- the filter's two answers
  pub kept : (t - a) + (a - t) < 30 → record { value = a; applied = false } ≡ undone_of a s
  unfolding applied_of
  kept h =
      let no : false ≡ not (ltb (distance (reversed a s) a) 30) = rw (← same, lt-ltb (distance t a) 30 (omega (arith, distance_is t a))) refl in
      λ i. record { value = sym (near h) i; applied = no i }

  pub replaced : 30 ≤ (t - a) + (a - t) → record { value = t; applied = true } ≡ undone_of a s
  unfolding applied_of
  replaced h =
      let yes : true ≡ not (ltb (distance (reversed a s) a) 30) = rw (← same, le-ltb (distance t a) 30 (omega (arith, distance_is t a))) refl in
      λ i. record { value = sym (far h) i; applied = yes i }

-- the average is kept, being less than 30 away from what it undoes to, or it is undone
module _ (a s : ℕ) where
  abbrev t : ℕ
  t = min (4 * a - s) 255

  by_change : Dec ((t - a) + (a - t) < 30) → ((filtered_of a s ≡ a) × ((t - a) + (a - t) < 30)) ⊎ (filtered_of a s ≡ t)
  by_change (yes h) = inl (near a s t refl h, h)
  by_change (no h) = inr (far a s t refl (omega arith))

  pub kept_or_undone : ((filtered_of a s ≡ a) × ((t - a) + (a - t) < 30)) ⊎ (filtered_of a s ≡ t)
  kept_or_undone = by_change (dec_lt ((t - a) + (a - t)) 30)

-- applied exactly where the answer is another one than the average: t is the average undone, and d whether it is near a
by-distance : (a t : ℕ) (d : Bool) → ltb (distance t a) 30 ≡ d → (not d ≡ true) ↔ (cond d a t ≡ a → ⊥)
by-distance a t true e = (λ h. absurd (false≢true h), λ n. absurd (n refl))
by-distance a t false e = (λ h is. omega (arith, is, ltb-false (distance t a) 30 e, distance_is t a), λ n. refl)

pub applied_exactly : (a s : ℕ) → (applied_of a s ≡ true) ↔ (filtered_of a s ≡ a → ⊥)
unfolding applied_of filtered_of
applied_exactly a s = by-distance a (reversed a s) _ refl

-- "A kept average counts as not applied even where t equals a"
pub equal_not_applied : (a s : ℕ) → reversed a s ≡ a → applied_of a s ≡ false
unfolding applied_of
equal_not_applied a s e = rw (lt-ltb (distance (reversed a s) a) 30 (omega (arith, e, distance_is (reversed a s) a))) refl
