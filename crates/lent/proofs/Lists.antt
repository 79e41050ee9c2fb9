-- `some`: a list is served one element after the other, and what some element takes is taken. Order and repetition have no effect.
-- Assumes nothing.
use Prim.Native.Nat.{ℕ, zero, suc, ◌+◌, ◌<◌}
use native.Mathlib.Numerals.{add-one}
use native.Mathlib.Omega.{arith}
use mathlib.Core.Path.{◌≡◌, refl, sym, ap, ◌∙◌, subst}
use mathlib.Core.Bool.{Bool, true, false≢true}
use mathlib.Core.Logic.{⊎_elim}
use mathlib.Core.List.{List}
use Rattle.lent.specs.Paint.{painted, some}
use Rattle.lent.proofs.Bools.{split, same_test, either, or_left, or_right}
use Rattle.lent.proofs.Painted.{painted_none, painted_more}

-- t i r c: element i of the list takes the place
module _ (w h : ℕ) (t : ℕ → ℕ → ℕ → Bool) (s : ℕ → ℕ → ℕ) (xs : List ℕ) where
  pub some_none : xs ≡ painted w h (λ r c. some 0 (λ i. t i r c)) s xs
  unfolding some
  some_none = painted_none w h _ s xs (λ r c hr hc. refl)

  pub some_more : (n : ℕ) → painted w h (t n) s (painted w h (λ r c. some n (λ i. t i r c)) s xs) ≡ painted w h (λ r c. some (n + 1) (λ i. t i r c)) s xs
  unfolding some
  some_more n = painted_more w h _ _ s xs ∙ ap (λ (m : ℕ). painted w h (λ r c. some m (λ i. t i r c)) s xs) (sym (add-one n))

-- what `some` means
pub some_holds : (n : ℕ) (p : ℕ → Bool) (i : ℕ) → i < n → p i ≡ true → some n p ≡ true
unfolding some
some_holds zero p i h e = absurd (omega arith)
some_holds (suc n) p i h e =
    ⊎_elim (λ lt. or_left (some n p) (p n) (some_holds n p i lt e)) (λ ge. or_right (some n p) (p n) (let eq : i ≡ n = omega arith in subst (λ (m : ℕ). p m ≡ true) eq e)) (split i n)

pub some_facts : (n : ℕ) (p : ℕ → Bool) → some n p ≡ true → (i : ℕ) × ((i < n) × (p i ≡ true))
unfolding some
some_facts zero p e = absurd (false≢true e)
some_facts (suc n) p e =
    ⊎_elim (λ l. let g = some_facts n p l in (g.0, (omega (arith, g.1.0), g.1.1))) (λ r. (n, (omega arith, r))) (either (some n p) (p n) e)

-- two lists of which each has what the other has are one: order and repetition have no effect
pub some_same : (n m : ℕ) (p q : ℕ → Bool) → ((i : ℕ) → i < n → (j : ℕ) × ((j < m) × (q j ≡ p i))) → ((j : ℕ) → j < m → (i : ℕ) × ((i < n) × (p i ≡ q j))) → some n p ≡ some m q
some_same n m p q f g =
    same_test (some n p) (some m q)
    (λ e. let a = some_facts n p e in let b = f a.0 a.1.0 in some_holds m q b.0 b.1.0 (b.1.1 ∙ a.1.1))
    (λ e. let a = some_facts m q e in let b = g a.0 a.1.0 in some_holds n p b.0 b.1.0 (b.1.1 ∙ a.1.1))
