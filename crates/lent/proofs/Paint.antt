-- The laws of `paint`: what stands where, nothing painted, two coats, one store more, all places.
-- Assumes nothing.
use Prim.Native.Nat.{ℕ, zero, suc, ◌+◌, ◌<◌}
use native.Mathlib.Nat.{le_of_suc-le-suc, not-suc-le-zero}
use native.Mathlib.Omega.{arith}
use mathlib.Core.Path.{◌≡◌, refl, sym, ap, ◌∙◌, subst}
use mathlib.Core.Bool.{Bool, true, false, cond, ◌||◌}
use mathlib.Core.Logic.{⊎_elim}
use mathlib.Core.List.{List, [], ◌∷◌}
use lib.Dec.{ltb}
use lib.ListN.{length, get_or, set, length-set}
use lib.Seq.{ext_get_or, get_or-set_same, get_or-set_other}
use borrow.Author.Tests.{lt-ltb, ltb-true}
use Rattle.lent.specs.Paint.{paint, every}
use Rattle.lent.proofs.Bools.{split, same_test, cond_ext, cond-false, cond-true, cond-cond}

pub length-paint : (t : ℕ → Bool) (s : ℕ → ℕ) (xs : List ℕ) → length (paint t s xs) ≡ length xs
unfolding paint
length-paint t s [] = refl
length-paint t s (x ∷ xs) = ap suc (length-paint (λ k. t (suc k)) (λ k. s (suc k)) xs)

pub get_d_paint : (t : ℕ → Bool) (s : ℕ → ℕ) (xs : List ℕ) (k : ℕ) → k < length xs → get_or (paint t s xs) k 0 ≡ cond (t k) (s k) (get_or xs k 0)
unfolding paint
get_d_paint t s [] k h = absurd (not-suc-le-zero h)
get_d_paint t s (x ∷ xs) zero h = refl
get_d_paint t s (x ∷ xs) (suc k) h = get_d_paint (λ k. t (suc k)) (λ k. s (suc k)) xs k (le_of_suc-le-suc h)

-- a list that has the length and the bytes of a painted one is that one
pub paint_is : (t : ℕ → Bool) (s : ℕ → ℕ) (xs ys : List ℕ) → length ys ≡ length xs → ((k : ℕ) → k < length xs → get_or ys k 0 ≡ cond (t k) (s k) (get_or xs k 0)) → ys ≡ paint t s xs
paint_is t s xs ys e f =
    ext_get_or 0 ys (paint t s xs) (e ∙ sym (length-paint t s xs))
    (λ k h. let h' : k < length xs = omega arith in f k h' ∙ sym (get_d_paint t s xs k h'))

pub paint_none : (t : ℕ → Bool) (s : ℕ → ℕ) (xs : List ℕ) → ((k : ℕ) → k < length xs → t k ≡ false) → xs ≡ paint t s xs
paint_none t s xs f = paint_is t s xs xs refl (λ k h. sym (cond-false (t k) (s k) (get_or xs k 0) (f k h)))

-- by what is painted alone: the tests agree, and the sources agree where the test holds
pub paint_ext : (t t' : ℕ → Bool) (s s' : ℕ → ℕ) (xs : List ℕ) → ((k : ℕ) → k < length xs → t k ≡ t' k) → ((k : ℕ) → k < length xs → t k ≡ true → s k ≡ s' k) → paint t s xs ≡ paint t' s' xs
paint_ext t t' s s' xs f g =
    paint_is t' s' xs (paint t s xs) (length-paint t s xs)
    (λ k h. get_d_paint t s xs k h ∙ cond_ext (t k) (t' k) (s k) (s' k) (get_or xs k 0) (f k h) (g k h))

-- two coats: the second wins where it is
pub paint-paint : (t₁ t₂ : ℕ → Bool) (s₁ s₂ : ℕ → ℕ) (xs : List ℕ) → paint t₂ s₂ (paint t₁ s₁ xs) ≡ paint (λ k. t₁ k || t₂ k) (λ k. cond (t₂ k) (s₂ k) (s₁ k)) xs
unfolding paint
paint-paint t₁ t₂ s₁ s₂ [] = refl
paint-paint t₁ t₂ s₁ s₂ (x ∷ xs) =
    λ i. cond-cond (t₁ zero) (t₂ zero) (s₁ zero) (s₂ zero) x i ∷ paint-paint (λ k. t₁ (suc k)) (λ k. t₂ (suc k)) (λ k. s₁ (suc k)) (λ k. s₂ (suc k)) xs i

-- one store more
pub paint-set : (t t' : ℕ → Bool) (s : ℕ → ℕ) (xs : List ℕ) (i v : ℕ) → i < length xs → v ≡ s i → t' i ≡ true → ((k : ℕ) → (k ≡ i → ⊥) → t k ≡ t' k) → set (paint t s xs) i v ≡ paint t' s xs
paint-set t t' s xs i v h e e' f =
    paint_is t' s xs (set (paint t s xs) i v) (length-set (paint t s xs) i v ∙ length-paint t s xs)
    (λ k hk. ⊎_elim
    (λ lt. get_or-set_other (paint t s xs) i k v 0 (λ z. omega arith) ∙ other k hk (λ z. omega arith))
    (λ ge. ⊎_elim
    (λ lt. get_or-set_other (paint t s xs) i k v 0 (λ z. omega arith) ∙ other k hk (λ z. omega arith))
    (λ ge'. let same : k ≡ i = omega arith in subst (λ (m : ℕ). get_or (set (paint t s xs) i v) m 0 ≡ cond (t' m) (s m) (get_or xs m 0)) (sym same) here)
    (split i k))
    (split k i))
  where
    other : (k : ℕ) → k < length xs → (k ≡ i → ⊥) → get_or (paint t s xs) k 0 ≡ cond (t' k) (s k) (get_or xs k 0)
    other k hk ne = get_d_paint t s xs k hk ∙ ap (λ (b : Bool). cond b (s k) (get_or xs k 0)) (f k ne)

    here : get_or (set (paint t s xs) i v) i 0 ≡ cond (t' i) (s i) (get_or xs i 0)
    here = get_or-set_same (paint t s xs) i v 0 (subst (λ (m : ℕ). i < m) (sym (length-paint t s xs)) h) ∙ e ∙ sym (cond-true (t' i) (s i) (get_or xs i 0) e')

-- the same of a loop that writes each place in turn
pub paint_next : (s : ℕ → ℕ) (xs : List ℕ) (i v : ℕ) → i < length xs → v ≡ s i → set (paint (λ k. ltb k i) s xs) i v ≡ paint (λ k. ltb k (i + 1)) s xs
paint_next s xs i v h e =
    paint-set (λ k. ltb k i) (λ k. ltb k (i + 1)) s xs i v h e (lt-ltb i (i + 1) (omega arith))
    (λ k ne. same_test (ltb k i) (ltb k (i + 1))
    (λ p. lt-ltb k (i + 1) (omega (arith, ltb-true k i p)))
    (λ p. lt-ltb k i (⊎_elim (λ l. l) (λ g. absurd (ne (omega (arith, ltb-true k (i + 1) p)))) (split k i))))

-- a list of the same length, written over all of xs
pub paint_over : (xs ys : List ℕ) → length ys ≡ length xs → ys ≡ paint every (λ k. get_or ys k 0) xs
paint_over xs ys e = paint_is every (λ k. get_or ys k 0) xs ys e (λ k h. refl)
