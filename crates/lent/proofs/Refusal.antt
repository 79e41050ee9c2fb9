-- "Exactly when", once for every call: a number is answered exactly when its test holds and none before it does, and 0 exactly when no
-- test holds. Each call's laws are instances, by computation over its list of tests.
-- Assumes nothing.
use Prim.Native.Nat.{ℕ}
use mathlib.Core.Path.{◌≡◌, refl, sym, subst}
use mathlib.Core.Bool.{Bool, true, false, cond, true≢false, ◌&&◌, not}
use mathlib.Core.Logic.{◌↔◌}
use mathlib.Core.List.{List, [], ◌∷◌, ◌++◌}
use lib.Dec.{eqb, T, T_not, eqb_refl}
use Rattle.lent.specs.Refusal.{refusal, NoneHolds, Free}
use Rattle.lent.proofs.Bools.{cond-true}

T-left : (a b : Bool) → T (a && b) → T a
T-left true b f = tt
T-left false b f = f

T-right : (a b : Bool) → T (a && b) → T b
T-right true b f = f
T-right false b f = absurd f

differs : (a b : ℕ) → T (not (eqb a b)) → a ≡ b → ⊥
differs a b f e = T_not (eqb a b) f (subst (λ (n : ℕ). T (eqb a n)) e (eqb_refl a))

-- a number that no test has is not answered
not_free : (n : ℕ) (tests : List (Bool × ℕ)) → Free n tests → (n ≡ 0 → ⊥) → refusal tests ≡ n → ⊥
not_free n [] f pos e = pos (sym e)
not_free n ((true, m) ∷ rest) f pos e = differs m n (T-left (not (eqb m n)) _ f) e
not_free n ((false, m) ∷ rest) f pos e = not_free n rest (T-right (not (eqb m n)) _ f) pos e

module _ (t : Bool) (n : ℕ) (after : List (Bool × ℕ)) (g : Free n after) (pos : n ≡ 0 → ⊥) where
  only_if : (before : List (Bool × ℕ)) → Free n before → refusal (before ++ ((t, n) ∷ after)) ≡ n → NoneHolds before × (t ≡ true)
  only_if [] f e = (tt, held t e)
    where
      held : (b : Bool) → cond b n (refusal after) ≡ n → b ≡ true
      held true e = refl
      held false e = absurd (not_free n after g pos e)
  only_if ((true, m) ∷ before) f e = absurd (differs m n (T-left (not (eqb m n)) _ f) e)
  only_if ((false, m) ∷ before) f e = let r = only_if before (T-right (not (eqb m n)) _ f) e in ((refl, r.0), r.1)

  if : (before : List (Bool × ℕ)) → NoneHolds before × (t ≡ true) → refusal (before ++ ((t, n) ∷ after)) ≡ n
  if [] h = cond-true t n (refusal after) h.1
  if ((true, m) ∷ before) h = absurd (true≢false h.0.0)
  if ((false, m) ∷ before) h = if before (h.0.1, h.1)

  pub refusal_exactly : (before : List (Bool × ℕ)) → Free n before → (refusal (before ++ ((t, n) ∷ after)) ≡ n) ↔ (NoneHolds before × (t ≡ true))
  refusal_exactly before f = (only_if before f, if before)

pub refusal_none : (tests : List (Bool × ℕ)) → Free 0 tests → (refusal tests ≡ 0) ↔ NoneHolds tests
refusal_none tests f = (none tests f, zero tests)
  where
    none : (tests : List (Bool × ℕ)) → Free 0 tests → refusal tests ≡ 0 → NoneHolds tests
    none [] f e = tt
    none ((true, m) ∷ rest) f e = absurd (differs m 0 (T-left (not (eqb m 0)) _ f) e)
    none ((false, m) ∷ rest) f e = (refl, none rest (T-right (not (eqb m 0)) _ f) e)

    zero : (tests : List (Bool × ℕ)) → NoneHolds tests → refusal tests ≡ 0
    zero [] h = refl
    zero ((true, m) ∷ rest) h = absurd (true≢false h.0)
    zero ((false, m) ∷ rest) h = zero rest h.1

-- tests that refuse are not reached by those after them
pub refusal_first : (tests more : List (Bool × ℕ)) → (refusal tests ≡ 0 → ⊥) → refusal (tests ++ more) ≡ refusal tests
refusal_first [] more some = absurd (some refl)
refusal_first ((true, n) ∷ tests) more some = refl
refusal_first ((false, n) ∷ tests) more some = refusal_first tests more some
