-- A picture's size record and its planes (R1 to R4; number 1: R22).
--
--   stride_of z, rows_of z      width and height rounded up to 16: always worked out from the size, never believed from a caller
--   allocation_size_of z        3 x stride x rows
--   planes_short z ny nu nv    refusal 1: a lent picture plane is shorter than stride x rows (ny, nu and nv are the planes' lengths)
--   PlanesFit z ny nu nv      each plane is at least stride x rows long
--   plane_of z s xs            the buffer xs, its plane holding s r c at row r, column c: "A plane is the first stride x rows bytes of its
--                             lent buffer; bytes after it never change"
use Rattle.std.specs.Prelude.{ℕ, ◌*◌, ◌≤◌, Bool, ◌||◌, List}
use Rattle.lent.specs.Paint.{painted, whole}
use Rattle.lent.specs.Sizes.{round_up, too_short}
use Rattle.picture.specs.declared.Size.{Size}

abbrev pub stride_of : Size → ℕ
stride_of z = round_up 16 z.width

abbrev pub rows_of : Size → ℕ
rows_of z = round_up 16 z.height

abbrev pub allocation_size_of : Size → ℕ
allocation_size_of z = 3 * (rows_of z * stride_of z)

unfoldable pub planes_short : Size → ℕ → ℕ → ℕ → Bool
planes_short z ny nu nv = too_short (stride_of z) (rows_of z) ny || too_short (stride_of z) (rows_of z) nu || too_short (stride_of z) (rows_of z) nv

pub record PlanesFit (z : Size) (ny nu nv : ℕ) : Type 0 where
  pub y_fits : rows_of z * stride_of z ≤ ny
  pub u_fits : rows_of z * stride_of z ≤ nu
  pub v_fits : rows_of z * stride_of z ≤ nv

abbrev pub plane_of : Size → (ℕ → ℕ → ℕ) → List ℕ → List ℕ
plane_of z s xs = painted (stride_of z) (rows_of z) whole s xs
