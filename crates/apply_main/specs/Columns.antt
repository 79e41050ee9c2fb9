-- What a rule takes of a small plane, as lists: for examples that are computed (R132).
--
--   columns_taken n m t     for each of the first n rows, the columns below m that t takes, in order
use Rattle.std.specs.Prelude.{ℕ, zero, suc, Bool, cond, List, [], ◌∷◌, ◌++◌}

-- the numbers below m that p takes
unfoldable pub those_below : ℕ → (ℕ → Bool) → List ℕ
those_below zero p = []
those_below (suc m) p = those_below m p ++ cond (p m) (m ∷ []) []

unfoldable pub columns_taken : ℕ → ℕ → (ℕ → ℕ → Bool) → List (List ℕ)
columns_taken zero m t = []
columns_taken (suc n) m t = columns_taken n m t ++ (those_below m (t n) ∷ [])
