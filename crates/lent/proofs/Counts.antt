-- `total` and `count_of`: one place more, a further part, how large, and every second place alone. Assumes nothing.
use Prim.Native.Nat.{ℕ, zero, suc, ◌+◌, ◌*◌, ◌/◌, ◌%◌, ◌≤◌, ◌<◌}
use native.Mathlib.Nat.{add-zero, add-suc, add_assoc, zero-mul, mul-zero, mul-add}
use native.Mathlib.Numerals.{add-one}
use native.Mathlib.Omega.{arith}
use mathlib.Core.Path.{◌≡◌, refl, sym, ap, ◌∙◌}
use mathlib.Core.Bool.{Bool, true, false, ◌&&◌}
use mathlib.Core.Logic.{⊎_elim}
use lib.Dec.{eqb}
use borrow.Author.Tests.{eq-eqb, ne_eqb}
use Rattle.lent.specs.Counts.{total, one, count_of}
use Rattle.lent.proofs.Bools.{split}

pub total_none : (f : ℕ → ℕ) → 0 ≡ total 0 f
unfolding total
total_none f = refl

pub total-one : (n : ℕ) (f : ℕ → ℕ) → total n f + f n ≡ total (n + 1) f
unfolding total
total-one n f = ap (λ (m : ℕ). total m f) (sym (add-one n))

-- a further part, as it is seen from its first place on
pub total_more : (n m : ℕ) (f : ℕ → ℕ) → total n f + total m (λ k. f (n + k)) ≡ total (n + m) f
unfolding total
total_more n zero f = add-zero (total n f) ∙ ap (λ (k : ℕ). total k f) (sym (add-zero n))
total_more n (suc m) f =
    sym (add_assoc (total n f) (total m (λ k. f (n + k))) (f (n + m)))
    ∙ ap (λ (x : ℕ). x + f (n + m)) (total_more n m f)
    ∙ ap (λ (k : ℕ). total k f) (sym (add-suc n m))

pub total_same : (n : ℕ) {f g : ℕ → ℕ} → ((k : ℕ) → k < n → f k ≡ g k) → total n f ≡ total n g
unfolding total
total_same zero e = refl
total_same (suc n) e = λ i. total_same n (λ k lt. e k (omega arith)) i + e n (omega arith) i

pub total_low : (n m : ℕ) (f : ℕ → ℕ) → ((k : ℕ) → k < n → f k ≤ m) → total n f ≤ n * m
unfolding total
total_low zero m f low = omega (arith, zero-mul m)
total_low (suc n) m f low = omega (arith, total_low n m f (λ k lt. low k (omega arith)), low n (omega arith))

pub total_zero : (n : ℕ) (f : ℕ → ℕ) → ((k : ℕ) → k < n → f k ≡ 0) → total n f ≡ 0
unfolding total
total_zero zero f none = refl
total_zero (suc n) f none = λ i. total_zero n f (λ k lt. none k (omega arith)) i + none n (omega arith) i

-- the places from n on have nothing
pub total_first : (n m : ℕ) {f g : ℕ → ℕ} → ((k : ℕ) → k < n → g k ≡ f k) → ((k : ℕ) → k < m → g (n + k) ≡ 0) → total (n + m) g ≡ total n f
total_first n m {f} {g} same none = sym (total_more n m g) ∙ (λ i. total_same n same i + total_zero m (λ k. g (n + k)) none i) ∙ add-zero _

-- two totals in one
pub total_both : (n c : ℕ) (f g : ℕ → ℕ) → total n (λ k. f k + c * g k) ≡ total n f + c * total n g
unfolding total
total_both zero c f g = omega (arith, mul-zero c)
total_both (suc n) c f g = omega (arith, total_both n c f g, mul-add c (total n g) (g n))

pub one_low : (b : Bool) → one b ≤ 1
one_low true = omega arith
one_low false = omega arith

pub count_low : (n : ℕ) (t : ℕ → Bool) → count_of n t ≤ n
count_low n t = omega (arith, total_low n 1 (λ k. one (t k)) (λ k lt. one_low (t k)))

-- every second place: as many as its halves say
module _ (t : ℕ → Bool) where
  abbrev even : ℕ → Bool
  even k = eqb (k % 2) 0 && t k

  abbrev half : ℕ → Bool
  half i = t (2 * i)

  taken : (m : ℕ) → count_of (2 * m) even + one (half m) ≡ count_of (2 * m + 1) even
  taken m =
      let is : even (2 * m) ≡ half m = rw (eq-eqb (2 * m % 2) 0 (omega arith)) refl in
      ap (λ (b : Bool). count_of (2 * m) even + one b) (sym is) ∙ total-one (2 * m) _

  left_out : (m : ℕ) → count_of (2 * m + 1) even ≡ count_of (2 * (m + 1)) even
  left_out m =
      let is : even (2 * m + 1) ≡ false = rw (ne_eqb ((2 * m + 1) % 2) 0 (λ e. omega arith)) refl in
      let two : 2 * m + 1 + 1 ≡ 2 * (m + 1) = omega arith in
      sym (add-zero _) ∙ ap (λ (b : Bool). count_of (2 * m + 1) even + one b) (sym is) ∙ total-one (2 * m + 1) _ ∙ ap (λ (n : ℕ). count_of n even) two

  pairs : (m : ℕ) → count_of (2 * m) even ≡ count_of m half
  pairs zero = sym (total_none (λ k. one (even k))) ∙ total_none (λ k. one (half k))
  pairs (suc m) =
      ap (λ (n : ℕ). count_of (2 * n) even) (sym (add-one m))
      ∙ sym (left_out m)
      ∙ sym (taken m)
      ∙ ap (λ (x : ℕ). x + one (half m)) (pairs m)
      ∙ total-one m _
      ∙ ap (λ (n : ℕ). count_of n half) (add-one m)

  pub even_count : (n : ℕ) → count_of ((n + 1) / 2) half ≡ count_of n even
  even_count n = ⊎_elim
      (λ is. let same : n ≡ 2 * (n / 2) = omega arith in let less : (n + 1) / 2 ≡ n / 2 = omega arith in
      ap (λ (k : ℕ). count_of k half) less ∙ sym (pairs (n / 2)) ∙ ap (λ (k : ℕ). count_of k even) (sym same))
      (λ is. let same : 2 * (n / 2) + 1 ≡ n = omega arith in let more : (n + 1) / 2 ≡ n / 2 + 1 = omega arith in
      ap (λ (k : ℕ). count_of k half) more ∙ sym (pairs (n / 2 + 1)) ∙ sym (left_out (n / 2)) ∙ ap (λ (k : ℕ). count_of k even) same)
      (split (n % 2) 1)
