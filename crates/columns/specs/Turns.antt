-- Every second place of a row, and two rows taken by turns.
--
--   odd, even                   of a column
--   woven evens odds k          byte k of a row that has `evens` at its even places and `odds` at its odd ones
--   new_odds from row k          byte k of `row`, once `from` is at its odd places
use Rattle.std.specs.Prelude.{ℕ, ◌/◌, ◌%◌, Bool, cond, List, eqb, get_or}

unfoldable pub odd : ℕ → Bool
odd k = eqb (k % 2) 1

unfoldable pub even : ℕ → Bool
even k = eqb (k % 2) 0

unfoldable pub woven : List ℕ → List ℕ → ℕ → ℕ
woven evens odds k = cond (odd k) (get_or odds (k / 2) 0) (get_or evens (k / 2) 0)

unfoldable pub new_odds : List ℕ → List ℕ → ℕ → ℕ
new_odds from row k = cond (odd k) (get_or from (k / 2) 0) (get_or row k 0)
