-- A formula over the whole numbers as one difference of two natural numbers, so that `omega` reads what is left of it.
-- `wholes` rewrites sums, differences and products to a difference `diff a b`, and its clamped floor to natural numbers.
-- Assumes nothing.
use mathlib.Core.Path.{◌≡◌, refl, sym, ap, ◌∙◌}
use Prim.Native.Nat.{ℕ, suc, zero, ◌+◌, ◌*◌, ◌-◌, ◌/◌, ◌<◌, min}
use native.Mathlib.Nat.{mul-add, zero-add}
use native.Mathlib.Omega.{arith}
use native.Mathlib.Decide.{dec_lt}
use borrow.Author.Tests.{lt-ltb, le-ltb}
use lib.IntN.{ℤ, pos, negsuc, neg_ℤ, nat_abs, sub_ℕ, ◌+ℤ◌, ◌*ℤ◌}
use Rattle.colour.specs.Whole.{◌÷◌, clamp}

-- a - b, for two naturals
unfoldable pub diff : ℕ → ℕ → ℤ
diff a b = sub_ℕ a b

pub diff_pos : (a b k : ℕ) → a ≡ b + k → diff a b ≡ pos k
unfolding diff
diff_pos a b k h = rw (le-ltb a b (omega arith)) (ap pos (omega arith))

pub diff_neg : (a b k : ℕ) → b ≡ a + suc k → diff a b ≡ negsuc k
unfolding diff
diff_neg a b k h = rw (lt-ltb a b (omega arith)) (ap negsuc (omega arith))

-- what holds of either sign holds of a difference
module _ (P : ℤ → Type 0) (a b : ℕ) (above : (k : ℕ) → a ≡ b + k → P (pos k)) (below : (k : ℕ) → b ≡ a + suc k → P (negsuc k)) where
  by_sign : Dec (a < b) → P (diff a b)
  by_sign (yes h) = rw (diff_neg a b (b - suc a) (omega arith)) (below (b - suc a) (omega arith))
  by_sign (no h) = rw (diff_pos a b (a - b) (omega arith)) (above (a - b) (omega arith))

  pub sign : P (diff a b)
  sign = by_sign (dec_lt a b)

pub diff_eq : (a b c d : ℕ) → a + d ≡ c + b → diff a b ≡ diff c d
diff_eq a b c d h =
    sign (λ z. z ≡ diff c d) a b (λ k e. sym (diff_pos c d k (omega arith))) (λ k e. sym (diff_neg c d k (omega arith)))

pub sub_diff : (a b : ℕ) → sub_ℕ a b ≡ diff a b
unfolding diff
sub_diff a b = refl

pub neg_pos : (a : ℕ) → neg_ℤ (pos a) ≡ diff 0 a
neg_pos zero = sym (diff_pos 0 0 0 refl)
neg_pos (suc a) = sym (diff_neg 0 (suc a) a (omega arith))

pub neg_diff : (a b : ℕ) → neg_ℤ (diff a b) ≡ diff b a
neg_diff a b =
    sign (λ z. neg_ℤ z ≡ diff b a) a b (λ k e. neg_pos k ∙ diff_eq 0 k b a (omega arith))
    (λ k e. sym (diff_pos b a (suc k) (omega arith)))

pub add_pos : (a b c : ℕ) → diff a b +ℤ pos c ≡ diff (a + c) b
add_pos a b c =
    sign (λ z. z +ℤ pos c ≡ diff (a + c) b) a b (λ k e. sym (diff_pos (a + c) b (k + c) (omega arith)))
    (λ k e. sub_diff c (suc k) ∙ diff_eq c (suc k) (a + c) b (omega arith))

pub pos_add : (a b c : ℕ) → pos c +ℤ diff a b ≡ diff (c + a) b
pos_add a b c =
    sign (λ z. pos c +ℤ z ≡ diff (c + a) b) a b (λ k e. sym (diff_pos (c + a) b (c + k) (omega arith)))
    (λ k e. sub_diff c (suc k) ∙ diff_eq c (suc k) (c + a) b (omega arith))

pub add_neg : (a b c : ℕ) → diff a b +ℤ negsuc c ≡ diff a (b + suc c)
add_neg a b c =
    sign (λ z. z +ℤ negsuc c ≡ diff a (b + suc c)) a b (λ k e. sub_diff k (suc c) ∙ diff_eq k (suc c) a (b + suc c) (omega arith))
    (λ k e. sym (diff_neg a (b + suc c) (suc (k + c)) (omega arith)))

pub add_diff : (a b c d : ℕ) → diff a b +ℤ diff c d ≡ diff (a + c) (b + d)
add_diff a b c d =
    sign (λ z. diff a b +ℤ z ≡ diff (a + c) (b + d)) c d
    (λ k e. add_pos a b k ∙ diff_eq (a + k) b (a + c) (b + d) (omega arith))
    (λ k e. add_neg a b k ∙ diff_eq a (b + suc k) (a + c) (b + d) (omega arith))

pub mul_diff : (n a b : ℕ) → pos n *ℤ diff a b ≡ diff (n * a) (n * b)
mul_diff n a b =
    sign (λ z. pos n *ℤ z ≡ diff (n * a) (n * b)) a b
    (λ k e. sym (diff_pos (n * a) (n * b) (n * k) (ap (λ (x : ℕ). n * x) e ∙ mul-add n b k)))
    (λ k e. neg_pos (n * suc k) ∙ diff_eq 0 (n * suc k) (n * a) (n * b) (zero-add (n * b) ∙ ap (λ (x : ℕ). n * x) e ∙ mul-add n a (suc k)))

-- floor division, where what is added is a multiple
pub floor_add : (a b m : ℕ) → diff a b ÷ 256 +ℤ pos m ≡ diff (a + 256 * m) b ÷ 256
floor_add a b m =
    sign (λ z. z ÷ 256 +ℤ pos m ≡ diff (a + 256 * m) b ÷ 256) a b
    (λ k e. rw (diff_pos (a + 256 * m) b (k + 256 * m) (omega arith)) (ap pos (omega arith)))
    (λ k e. sub_diff m (suc (k / 256)) ∙ sign (λ z. diff m (suc (k / 256)) ≡ z ÷ 256) (a + 256 * m) b
    (λ j f. diff_pos m (suc (k / 256)) (j / 256) (omega arith))
    (λ j f. diff_neg m (suc (k / 256)) (j / 256) (omega arith)))

-- what is clamped from below is a difference of natural numbers
pub clamp_floor : (a b : ℕ) → clamp (diff a b ÷ 256) ≡ min ((a - b) / 256) 255
clamp_floor a b =
    sign (λ z. clamp (z ÷ 256) ≡ min ((a - b) / 256) 255) a b (λ k e. omega arith) (λ k e. omega arith)

pub clamp_diff : (a b : ℕ) → clamp (diff a b) ≡ min (a - b) 255
clamp_diff a b = sign (λ z. clamp z ≡ min (a - b) 255) a b (λ k e. omega arith) (λ k e. omega arith)

pub abs_diff : (a b : ℕ) → nat_abs (diff a b) ≡ (a - b) + (b - a)
abs_diff a b = sign (λ z. nat_abs z ≡ (a - b) + (b - a)) a b (λ k e. omega arith) (λ k e. omega arith)

-- sums, differences, products and floors as one difference; `wholes` clamps it too
pub ruleset differences = (sub_diff, neg_pos, neg_diff, add_pos, pos_add, add_neg, add_diff, mul_diff, floor_add)

pub ruleset wholes = (differences, clamp_floor, clamp_diff, abs_diff)
