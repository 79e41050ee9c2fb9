-- How a call ends, once its number is known: a refusal has count 0 and leaves each lent buffer as it was; number 0 leaves what is worked
-- out. Each call's last lines cite these.
-- Assumes nothing.
use Prim.Native.Nat.{ℕ}
use mathlib.Core.Path.{◌≡◌, sym, ◌∙◌}
use mathlib.Core.List.{List}
use lib.Dec.{eqb}
use borrow.Author.Tests.{eq-eqb, ne_eqb}
use Rattle.lent.specs.Outcome.{answer_of, lent_after}
use Rattle.lent.proofs.Bools.{cond-true, cond-false, cond_same}

-- the answer of a call whose count is always 0
pub answer_none : {n m : ℕ} → n ≡ m → record { number = n; count = 0 } ≡ answer_of m 0
answer_none {n} {m} e = λ i. record { number = e i; count = sym (cond_same (eqb m 0) 0) i }

-- the answer of a refusal, whatever the count would have been
pub answer_refused : {n m : ℕ} (count : ℕ) → n ≡ m → (n ≡ 0 → ⊥) → record { number = n; count = 0 } ≡ answer_of m count
answer_refused {n} {m} count e f = λ i. record { number = e i; count = sym (cond-false (eqb m 0) count 0 (ne_eqb m 0 (λ z. f (e ∙ z)))) i }

-- the answer of a call that is done
pub answer_done : {m count wrote : ℕ} → m ≡ 0 → wrote ≡ count → record { number = 0; count = wrote } ≡ answer_of m count
answer_done {m} {count} e c = λ i. record { number = sym e i; count = (c ∙ sym (cond-true (eqb m 0) count 0 (eq-eqb m 0 e))) i }

pub lent_refused : (n : ℕ) (old new : List ℕ) → (n ≡ 0 → ⊥) → old ≡ lent_after n old new
lent_refused n old new f = sym (cond-false (eqb n 0) new old (ne_eqb n 0 f))

pub lent_done : (n : ℕ) (old new : List ℕ) → n ≡ 0 → new ≡ lent_after n old new
lent_done n old new e = sym (cond-true (eqb n 0) new old (eq-eqb n 0 e))
