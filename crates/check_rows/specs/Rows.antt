-- A row of a view beside what a split has there (R89): "every visible sample equals it", and which one is the first that does not.
--
--   wrong_at row s c      the row's sample at column c is not s c
--   first_wrong row s     the first such column; where there is none, how many columns the row has
--   Right row s n        none of the first n columns is wrong
--   Taken                which samples of a row of the picture a row of a view has: of every second one the Evens or the Odds, of every
--                        fourth one the Fourths, from column 0 on, or those Between, from column 2 on
--   step_of k, first_of k  how far apart these are, and the first
use Rattle.std.specs.Prelude.{ℕ, ◌<◌, ◌≡◌, Bool, not, List, eqb, length, get_or}
use Rattle.lent.specs.Counts.{first_where}
use Rattle.check_rows.specs.declared.Taken.{Taken}
use Rattle.check_rows.specs.declared.Taken.TheVariants.{Evens, Odds, Fourths, Between}

abbrev pub wrong_at : List ℕ → (ℕ → ℕ) → ℕ → Bool
wrong_at row s c = not (eqb (get_or row c 0) (s c))

unfoldable pub first_wrong : List ℕ → (ℕ → ℕ) → ℕ
first_wrong row s = first_where (length row) (wrong_at row s)

abbrev pub Right : List ℕ → (ℕ → ℕ) → ℕ → Type 0
Right row s n = (c : ℕ) → c < n → get_or row c 0 ≡ s c

abbrev pub step_of : Taken → ℕ
step_of Evens = 2
step_of Odds = 2
step_of Fourths = 4
step_of Between = 4

abbrev pub first_of : Taken → ℕ
first_of Evens = 0
first_of Odds = 1
first_of Fourths = 0
first_of Between = 2
