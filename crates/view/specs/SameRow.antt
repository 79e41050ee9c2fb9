-- Two rows that a viewer could not tell apart; which views are alike is said in view (specs/Alike.antt).
--
--   SameRow n p xs m q ys r              row r of a plane xs of a view answered with n, and of a plane ys of one answered with m: equal
--                                        number, presence, length and bytes
use Rattle.std.specs.Prelude.{ℕ, ◌≡◌, List}
use Rattle.view.specs.declared.Plane.{Plane}
use Rattle.view.specs.Starts.{bytes_in}
use Rattle.view.specs.Rows.{find_row_of, row_answer_of}

pub record SameRow (n : ℕ) (p : Plane) (xs : List ℕ) (m : ℕ) (q : Plane) (ys : List ℕ) (r : ℕ) : Type 0 where
  pub number : (row_answer_of n p r).number ≡ (row_answer_of m q r).number
  pub present : (row_answer_of n p r).present ≡ (row_answer_of m q r).present
  pub length : (row_answer_of n p r).length ≡ (row_answer_of m q r).length
  pub bytes : bytes_in (find_row_of n p r) p.width xs ≡ bytes_in (find_row_of m q r) q.width ys
