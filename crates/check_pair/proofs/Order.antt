-- The order of the places of two views: no two come before each other, and of two one comes first or they are one. And verdicts that follow
-- each other: where each says the first wrong place of its part, and the parts stand in order, both together say it of both.
-- Assumes nothing.
use Prim.Native.Nat.{ℕ, ◌<◌}
use native.Mathlib.Omega.{arith}
use mathlib.Core.Path.{◌≡◌}
use mathlib.Core.Logic.{◌⊎◌, inl, inr, ⊎_elim}
use Rattle.lent.proofs.Bools.{split}
use Rattle.check_pair.specs.declared.Where.{Where}
use Rattle.check_pair.specs.declared.Verdict.{Verdict}
use Rattle.check_pair.specs.declared.Verdict.TheVariants.{Same, Sizes, Wrong}
use Rattle.check_pair.specs.Verdict.{or_else}
use Rattle.check_pair.specs.Places.{Before}

-- ---- one number after the other

abbrev Lex : ℕ → ℕ → Type 0 → Type 0
Lex a b P = (a < b) ⊎ ((a ≡ b) × P)

lex_not : (a b : ℕ) {P Q : Type 0} → (P → Q → ⊥) → Lex a b P → Lex b a Q → ⊥
lex_not a b f (inl h) (inl g) = omega arith
lex_not a b f (inl h) (inr g) = omega (arith, g.0)
lex_not a b f (inr h) (inl g) = omega (arith, h.0)
lex_not a b f (inr h) (inr g) = f h.1 g.1

lex_three : (a b : ℕ) {P Q R : Type 0} → (P ⊎ Q) ⊎ R → (Lex a b P ⊎ Lex b a Q) ⊎ ((a ≡ b) × R)
lex_three a b f =
    ⊎_elim
    (λ lt. inl (inl (inl lt)))
    (λ ge. ⊎_elim
    (λ lt. inl (inr (inl lt)))
    (λ le. let e : a ≡ b = omega arith in
    let g : b ≡ a = omega arith in ⊎_elim (⊎_elim (λ p. inl (inl (inr (e, p)))) (λ q. inl (inr (inr (g, q))))) (λ r. inr (e, r)) f)
    (split b a))
    (split a b)

pub before_not : (k l : Where) → Before k l → Before l k → ⊥
before_not k l =
    lex_not k.view l.view (lex_not k.plane l.plane (lex_not k.row l.row (λ h g. omega arith)))

pub before_or_same : (k l : Where) → (Before k l ⊎ Before l k) ⊎ (k ≡ l)
before_or_same k l =
    ⊎_elim (λ o. inl o) (λ e. inr (λ i. record { view = e.0 i; plane = e.1.0 i; row = e.1.1.0 i; column = e.1.1.1 i }))
    (lex_three k.view l.view (lex_three k.plane l.plane (lex_three k.row l.row columns)))
  where
    columns : ((k.column < l.column) ⊎ (l.column < k.column)) ⊎ (k.column ≡ l.column)
    columns = ⊎_elim (λ lt. inl (inl lt)) (λ ge. ⊎_elim (λ lt. inl (inr lt)) (λ le. inr (omega arith)) (split l.column k.column)) (split k.column l.column)

-- ---- what a verdict says of the places of a part, where Right is what a place is to be

module _ (Right : Where → Type 0) where
  abbrev pub Tells : (Where → Type 0) → Verdict → Type 0
  Tells In Same = (k : Where) → In k → Right k
  Tells In Sizes = ⊥
  Tells In (Wrong l) = In l × ((Right l → ⊥) × ((k : Where) → In k → Before k l → Right k))

  pub then_tells : (A B : Where → Type 0) → ((k l : Where) → A k → B l → Before k l) → (d e : Verdict) → Tells A d → Tells B e → Tells (λ k. A k ⊎ B k) (or_else d e)
  then_tells A B order Same Same f g = λ k h. ⊎_elim (f k) (g k) h
  then_tells A B order Same Sizes f g = g
  then_tells A B order Same (Wrong l) f g = (inr g.0, (g.1.0, λ k h lt. ⊎_elim (λ a. f k a) (λ b. g.1.1 k b lt) h))
  then_tells A B order Sizes e f g = f
  then_tells A B order (Wrong l) e f g =
      (inl f.0, (f.1.0, λ k h lt. ⊎_elim (λ a. f.1.1 k a lt) (λ b. absurd (before_not k l lt (order l k f.0 b))) h))

  -- the same of a part that has the same places
  pub same_tells : (A B : Where → Type 0) → ((k : Where) → A k → B k) → ((k : Where) → B k → A k) → (d : Verdict) → Tells A d → Tells B d
  same_tells A B to from Same f = λ k h. f k (from k h)
  same_tells A B to from Sizes f = f
  same_tells A B to from (Wrong l) f = (to l f.0, (f.1.0, λ k h lt. f.1.1 k (from k h) lt))
