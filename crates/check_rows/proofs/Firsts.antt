-- `first_where` by parts: two parts that were passed are passed as one, and the first of a later part is the first of all.
-- Assumes nothing.
use Prim.Native.Nat.{ℕ, ◌+◌, ◌-◌, ◌<◌, ◌≤◌}
use native.Mathlib.Omega.{arith}
use mathlib.Core.Path.{◌≡◌, sym, ◌∙◌, subst}
use mathlib.Core.Bool.{Bool, true, false}
use mathlib.Core.Logic.{⊎_elim}
use Rattle.lent.specs.Counts.{first_where}
use Rattle.lent.proofs.Bools.{split}
use Rattle.lent.proofs.First.{Passed, first_none, first_at, first_low, first_holds, first_before}

-- a places were passed, and the b from there on
pub passed_join : (t : ℕ → Bool) (a b : ℕ) → Passed t a → Passed (λ k. t (a + k)) b → Passed t (a + b)
passed_join t a b before after j lt =
    ⊎_elim (λ less. before j less) (λ ge. let is : a + (j - a) ≡ j = omega arith in subst (λ (m : ℕ). t m ≡ false) is (after (j - a) (omega arith))) (split j a)

-- where the first is the end, all were passed
pub passed_all : (n : ℕ) (t : ℕ → Bool) → first_where n t ≡ n → Passed t n
passed_all n t end = subst (Passed t) end (first_before n t)

-- a places were passed, and of the b from there on place k is the first that is taken
pub first_later : (n : ℕ) (t : ℕ → Bool) (a b : ℕ) {k : ℕ} → Passed t a → k ≡ first_where b (λ j. t (a + j)) → k < b → a + b ≤ n → first_where n t ≡ a + k
first_later n t a b {k} before is low fits =
    first_at n t (a + k) (omega arith) (passed_join t a k before (subst (Passed (λ j. t (a + j))) (sym is) (first_before b (λ j. t (a + j)))))
    (subst (λ (m : ℕ). t (a + m) ≡ true) (sym is) (first_holds b (λ j. t (a + j)) (omega arith)))

-- the same, where the b are all that is left, and none of them need be taken
pub first_rest : (n : ℕ) (t : ℕ → Bool) (a b : ℕ) {k : ℕ} → Passed t a → k ≡ first_where b (λ j. t (a + j)) → a + b ≡ n → first_where n t ≡ a + k
first_rest n t a b {k} before is end =
    ⊎_elim (λ low. first_later n t a b before is low (omega arith))
    (λ ge. let all : k ≡ b = omega (arith, first_low b (λ j. t (a + j))) in
    let passed = passed_join t a b before (passed_all b (λ j. t (a + j)) (sym is ∙ all)) in
    first_none n t (subst (Passed t) end passed) ∙ omega arith)
    (split k b)

-- two tests that agree on n places have the same first one
pub first_same : (n : ℕ) (t t' : ℕ → Bool) → ((k : ℕ) → k < n → t k ≡ t' k) → first_where n t ≡ first_where n t'
first_same n t t' agree =
    ⊎_elim
    (λ low. first_at n t (first_where n t') low (λ j h. agree j (omega arith) ∙ first_before n t' j h) (agree (first_where n t') low ∙ first_holds n t' low))
    (λ ge. let all : first_where n t' ≡ n = omega (arith, first_low n t') in first_none n t (λ j h. agree j h ∙ passed_all n t' all j h) ∙ sym all)
    (split (first_where n t') n)
