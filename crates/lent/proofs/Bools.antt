-- Cases on numbers, and what tests say: `split`, `both`, `either`, `cond` at a known test. Assumes nothing.
use Prim.Native.Nat.{ℕ, ◌<◌, ◌≤◌}
use mathlib.Core.Path.{◌≡◌, refl, sym}
use mathlib.Core.Bool.{Bool, true, false, cond, ◌&&◌, ◌||◌, true≢false, false≢true}
use mathlib.Core.Logic.{◌⊎◌, inl, inr}
use lib.Dec.{ltb}
use borrow.Author.Tests.{ltb-true, ltb-false}

split_by : (a b : ℕ) (t : Bool) → ltb a b ≡ t → (a < b) ⊎ (b ≤ a)
split_by a b true e = inl (ltb-true a b e)
split_by a b false e = inr (ltb-false a b e)

pub split : (a b : ℕ) → (a < b) ⊎ (b ≤ a)
split a b = split_by a b (ltb a b) refl

-- two tests are one where each implies the other
pub same_test : (a b : Bool) → (a ≡ true → b ≡ true) → (b ≡ true → a ≡ true) → a ≡ b
same_test true b f g = sym (f refl)
same_test false true f g = g refl
same_test false false f g = refl

pub never_true : (a : Bool) → (a ≡ true → ⊥) → a ≡ false
never_true true f = absurd (f refl)
never_true false f = refl

pub both_left : (a b : Bool) → (a && b) ≡ true → a ≡ true
both_left true b e = refl
both_left false b e = e

pub both_right : (a b : Bool) → (a && b) ≡ true → b ≡ true
both_right true b e = e
both_right false b e = absurd (false≢true e)

pub both : (a b : Bool) → a ≡ true → b ≡ true → (a && b) ≡ true
both true b e f = f
both false b e f = e

pub either : (a b : Bool) → (a || b) ≡ true → (a ≡ true) ⊎ (b ≡ true)
either true b e = inl refl
either false b e = inr e

pub or_left : (a b : Bool) → a ≡ true → (a || b) ≡ true
or_left true b e = refl
or_left false b e = absurd (false≢true e)

pub or_right : (a b : Bool) → b ≡ true → (a || b) ≡ true
or_right true b e = refl
or_right false b e = e

pub cond_ext : (b b' : Bool) (a a' x : ℕ) → b ≡ b' → (b ≡ true → a ≡ a') → cond b a x ≡ cond b' a' x
cond_ext true true a a' x e f = f refl
cond_ext false false a a' x e f = refl
cond_ext true false a a' x e f = absurd (true≢false e)
cond_ext false true a a' x e f = absurd (false≢true e)

pub cond-false : {A : Type 0} (b : Bool) (a x : A) → b ≡ false → cond b a x ≡ x
cond-false true a x e = absurd (true≢false e)
cond-false false a x e = refl

pub cond-true : {A : Type 0} (b : Bool) (a x : A) → b ≡ true → cond b a x ≡ a
cond-true true a x e = refl
cond-true false a x e = absurd (false≢true e)

pub cond-cond : (b₁ b₂ : Bool) (a₁ a₂ x : ℕ) → cond b₂ a₂ (cond b₁ a₁ x) ≡ cond (b₁ || b₂) (cond b₂ a₂ a₁) x
cond-cond true true a₁ a₂ x = refl
cond-cond true false a₁ a₂ x = refl
cond-cond false true a₁ a₂ x = refl
cond-cond false false a₁ a₂ x = refl

-- under a test, only what holds there counts
pub same_and : (b x y : Bool) → (b ≡ true → x ≡ y) → (b && x) ≡ (b && y)
same_and true x y f = f refl
same_and false x y f = refl

pub and-cond : (b x y : Bool) (a₁ a₂ : ℕ) → ((b && x) || (b && y)) ≡ true → cond (b && y) a₂ a₁ ≡ cond y a₂ a₁
and-cond true x y a₁ a₂ e = refl
and-cond false x y a₁ a₂ e = absurd (false≢true e)

pub cond_same : {A : Type 0} (b : Bool) (a : A) → cond b a a ≡ a
cond_same true a = refl
cond_same false a = refl
