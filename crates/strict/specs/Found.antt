-- What is found of a rectangle and of a list, as the numbers of an answer.
--
--   number_of_fault f    the number of a fault: 1 left not below right, 2 top not below bottom, 3 right above the width, 4 bottom above the height
--   fault_in x           the fault that was found, or 0 where the rectangle is sound
--   index_in n x         the index that was found in a list of n rectangles, or n where all are sound
use Rattle.std.specs.Prelude.{ℕ, Option, Some, None}
use Rattle.strict.specs.declared.lists.Fault.{Fault}
use Rattle.strict.specs.declared.lists.Fault.TheVariants.{NotWide, NotHigh, PastRight, PastBottom}

abbrev pub number_of_fault : Fault → ℕ
number_of_fault NotWide = 1
number_of_fault NotHigh = 2
number_of_fault PastRight = 3
number_of_fault PastBottom = 4

abbrev pub fault_in : Option Fault → ℕ
fault_in (Some f) = number_of_fault f
fault_in None = 0

abbrev pub index_in : ℕ → Option ℕ → ℕ
index_in n (Some i) = i
index_in n None = n
