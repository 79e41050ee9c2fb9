-- Where a row of the main view reads (R63, R64), and what the writers of a row ask of their
-- callers, as plain inequalities: a picture's plane of n bytes is written from a view's plane p of m bytes.
--
--   halved plane stride r c                     "from U and V at row/2, col/2": halves are floor
--   MainRowsFit z p n m bottom left right to        rows below `bottom` and columns from left to below right lie in the picture's plane, and a
--                                               row of the view's plane reaches to column `to`
use Rattle.std.specs.Prelude.{ℕ, ◌*◌, ◌/◌, ◌≤◌, List}
use Rattle.lent.specs.Samples.{sample}
use Rattle.picture.specs.declared.Size.{Size}
use Rattle.picture.specs.Sizes.{stride_of, rows_of}
use Rattle.view.specs.declared.Plane.{Plane}

unfoldable pub halved : List ℕ → ℕ → ℕ → ℕ → ℕ
halved plane stride r c = sample plane stride (r / 2) (c / 2)

pub record MainRowsFit (z : Size) (p : Plane) (n m bottom left right to : ℕ) : Type 0 where
  pub plane_fits : rows_of z * stride_of z ≤ n
  pub view_fits : p.height * p.stride ≤ m
  pub rows_inside : bottom ≤ rows_of z
  pub ordered : left ≤ right
  pub inside : right ≤ stride_of z
  pub seen : to ≤ p.stride
