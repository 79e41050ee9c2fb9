-- `first_where`: it is below the end exactly when some place is taken; the test takes it, and no place before it. And how a loop finds it: what
-- it has passed is not taken, one place more, and where it stops.
-- Assumes nothing.
use Prim.Native.Nat.{ℕ, zero, suc, ◌+◌, ◌<◌, ◌≤◌}
use native.Mathlib.Omega.{arith}
use mathlib.Core.Path.{◌≡◌, refl, sym, ◌∙◌, subst}
use mathlib.Core.Bool.{Bool, true, false, ◌||◌, true≢false, false≢true}
use mathlib.Core.Logic.{◌↔◌, ⊎_elim}
use borrow.Author.Count.{below_none, below_more}
use Rattle.lent.specs.Counts.{first_where}
use Rattle.lent.specs.Paint.{some}
use Rattle.lent.proofs.Bools.{split, never_true, either, cond-true, cond-false}
use Rattle.lent.proofs.Lists.{some_holds, some_facts}

-- ---- what a loop has passed: the test takes no place below i

abbrev pub Passed : (ℕ → Bool) → ℕ → Type 0
Passed t i = (j : ℕ) → j < i → t j ≡ false

pub passed_none : (t : ℕ → Bool) → Passed t 0
passed_none t = below_none (λ j. t j ≡ false)

pub passed_more : (t : ℕ → Bool) (i : ℕ) → Passed t i → t i ≡ false → Passed t (i + 1)
passed_more t i before here = below_more (λ j. t j ≡ false) i before here

-- all of n are passed exactly when none of them is taken
pub passed_exactly : (n : ℕ) (t : ℕ → Bool) → (some n t ≡ false) ↔ Passed t n
passed_exactly n t = (
  λ none j lt. never_true (t j) (λ e. true≢false (sym (some_holds n t j lt e) ∙ none)),
  λ passed. never_true (some n t) (λ e. let f = some_facts n t e in true≢false (sym f.1.1 ∙ passed f.0 f.1.0)),
)

-- ---- where it stops

-- all n were passed
pub first_none : (n : ℕ) (t : ℕ → Bool) → Passed t n → first_where n t ≡ n
unfolding first_where
first_none zero t passed = refl
first_none (suc n) t passed = cond-false (some (suc n) t) _ _ ((passed_exactly (suc n) t).1 passed)

-- place k is taken, and those before it were passed
pub first_at : (n : ℕ) (t : ℕ → Bool) (k : ℕ) → k < n → Passed t k → t k ≡ true → first_where n t ≡ k
unfolding first_where
first_at zero t k lt passed here = absurd (omega arith)
first_at (suc n) t k lt passed here =
    cond-true (some (suc n) t) _ _ (some_holds (suc n) t k lt here)
    ∙ ⊎_elim (λ less. first_at n t k less passed here) (λ ge. let last : k ≡ n = omega arith in first_none n t (λ j h. passed j (omega arith)) ∙ sym last) (split k n)

-- ---- what it is

-- k is the first of n places that the test takes
abbrev First : ℕ → (ℕ → Bool) → ℕ → Type 0
First n t k = (k < n) × ((t k ≡ true) × Passed t k)

first_is : (n : ℕ) (t : ℕ → Bool) → some n t ≡ true → First n t (first_where n t)
unfolding some first_where
first_is zero t e = absurd (false≢true e)
first_is (suc n) t e = subst (First (suc n) t) (sym (cond-true (some n t || t n) _ _ e)) (by (first_is n t) (some n t) refl)
  where
    by : (some n t ≡ true → First n t (first_where n t)) → (b : Bool) → some n t ≡ b → First (suc n) t (first_where n t)
    by earlier true is = let f = earlier is in (omega (arith, f.0), f.1)
    by earlier false is =
        let passed = (passed_exactly n t).0 is in
        let here : t n ≡ true = ⊎_elim (λ l. absurd (true≢false (sym l ∙ is))) (λ r. r) (either (some n t) (t n) e) in
        subst (First (suc n) t) (sym (first_none n t passed)) (omega arith, (here, passed))

module _ (n : ℕ) (t : ℕ → Bool) where
  pub first_low : first_where n t ≤ n
  first_low = by (some n t) refl
    where
      by : (b : Bool) → some n t ≡ b → first_where n t ≤ n
      by true is = omega (arith, (first_is n t is).0)
      by false is = omega (arith, first_none n t ((passed_exactly n t).0 is))

  pub first_exactly : (first_where n t < n) ↔ (some n t ≡ true)
  first_exactly = (by (some n t) refl, λ e. (first_is n t e).0)
    where
      by : (b : Bool) → some n t ≡ b → first_where n t < n → some n t ≡ true
      by true is lt = is
      by false is lt = absurd (omega (arith, first_none n t ((passed_exactly n t).0 is)))

  -- the test takes it
  pub first_holds : first_where n t < n → t (first_where n t) ≡ true
  first_holds lt = (first_is n t (first_exactly.0 lt)).1.0

  -- and no place before it
  pub first_before : Passed t (first_where n t)
  first_before = by (some n t) refl
    where
      by : (b : Bool) → some n t ≡ b → Passed t (first_where n t)
      by true is = (first_is n t is).1.1
      by false is = let passed = (passed_exactly n t).0 is in subst (Passed t) (sym (first_none n t passed)) passed
