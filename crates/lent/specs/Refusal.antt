-- Refusals by number, in the order in which a call gives them (R22).
--
--   refusal tests     the number of the first test that holds, 0 where none does: each test stands beside its number
--   NoneHolds tests   no test of the list holds
--   Free n tests      n is the number of no test of the list
use Rattle.std.specs.Prelude.{ℕ, ◌≡◌, Bool, true, false, cond, not, ◌&&◌, List, [], ◌∷◌, eqb, T}

abbrev pub refusal : List (Bool × ℕ) → ℕ
refusal [] = 0
refusal (x ∷ rest) = cond x.0 x.1 (refusal rest)

abbrev pub NoneHolds : List (Bool × ℕ) → Type 0
NoneHolds [] = Unit {0}
NoneHolds (x ∷ rest) = (x.0 ≡ false) × NoneHolds rest

abbrev pub free : ℕ → List (Bool × ℕ) → Bool
free n [] = true
free n (x ∷ rest) = not (eqb x.1 n) && free n rest

abbrev pub Free : ℕ → List (Bool × ℕ) → Type 0
Free n tests = T (free n tests)
