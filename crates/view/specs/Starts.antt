-- Where a row of a view's plane starts (R6: "Row r of a view's plane exists exactly when r is below that plane's height. It starts at
-- r x stride and is that plane's width long"), and the values of each case of the answer (R8: "An absent row is no refusal:
-- number 0, not present, an empty part"). The row itself is said in Rows.antt.
--
--   Values                        whether there is a row, and where it starts; a_row and no_row are the two kinds there are
--   values_of                      what they are where there is a row that starts there, and where there is none
--   length_in v width              how long the row is in a plane of this width: an absent row has no byte
--   bytes_in v width plane         its bytes: so many of the plane's, from the start on
--   row_start_of stride rows r      where row r of a plane of so many rows starts, or that it is absent, in these values
use Rattle.std.specs.Prelude.{ℕ, ◌*◌, Bool, true, false, cond, List, ltb, take, drop, Option, Some, None}

pub record Values : Type 0 where
  pub present : Bool
  pub start : ℕ

abbrev pub a_row : ℕ → Values
a_row start = record { present = true; start = start }

abbrev pub no_row : Values
no_row = record { present = false; start = 0 }

abbrev pub values_of : Option ℕ → Values
values_of (Some start) = a_row start
values_of None = no_row

abbrev pub length_in : Values → ℕ → ℕ
length_in v width = cond v.present width 0

abbrev pub bytes_in : Values → ℕ → List ℕ → List ℕ
bytes_in v width plane = take (length_in v width) (drop v.start plane)

unfoldable pub row_start_of : ℕ → ℕ → ℕ → Values
row_start_of stride rows r = cond (ltb r rows) (a_row (r * stride)) no_row
