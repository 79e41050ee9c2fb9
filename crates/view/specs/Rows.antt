-- A row of a view's plane (R6 to R8: "Row r exists exactly when r is below that plane's height. It starts
-- at r x stride and is that plane's width long. A row is answered as the caller's own bytes, not copied").
-- What an absent row stands for is said in Starts.antt.
--
--   find_row_of n p r               row r of the plane p of a view that was answered with n: in a refusal there is none
--   row_in n v width               the answer with the number n, of a row with the values v
--   row_answer_of n p r             the answer of a row call: number, whether the row is present, start and length
--   RowPart n p r lent part       the part is the row itself: the caller's own bytes in the lent plane
use Rattle.std.specs.Prelude.{ℕ, cond, List, eqb}
use Rattle.std.specs.Borrow.{Bor}
use Rattle.lent.specs.Outcome.{OwnPart}
use Rattle.view.specs.declared.Plane.{Plane}
use Rattle.view.specs.declared.rows.Row.{Row}
use Rattle.view.specs.Starts.{Values, no_row, length_in, bytes_in, row_start_of}

unfoldable pub find_row_of : ℕ → Plane → ℕ → Values
find_row_of n p r = cond (eqb n 0) (row_start_of p.stride p.height r) no_row

abbrev pub row_in : ℕ → Values → ℕ → Row
row_in n v width = record { number = n; present = v.present; start = v.start; length = length_in v width }

abbrev pub row_answer_of : ℕ → Plane → ℕ → Row
row_answer_of n p r = row_in n (find_row_of n p r) p.width

abbrev pub RowPart : ℕ → Plane → ℕ → Bor (List ℕ) → Bor (List ℕ) → Type 0
RowPart n p r lent part = OwnPart lent part (find_row_of n p r).start (bytes_in (find_row_of n p r) p.width lent.now)
