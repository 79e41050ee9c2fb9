-- What the private functions ask of their callers, as plain inequalities: a picture's plane of n bytes is written from a view's plane p of
-- m bytes.
--
--   RectFits z p n m                            the whole of both planes is there: what is left of an accepted call
use Rattle.std.specs.Prelude.{ℕ, ◌*◌, ◌≤◌}
use Rattle.picture.specs.declared.Size.{Size}
use Rattle.picture.specs.Sizes.{stride_of, rows_of}
use Rattle.view.specs.declared.Plane.{Plane}

pub record RectFits (z : Size) (p : Plane) (n m : ℕ) : Type 0 where
  pub plane_fits : rows_of z * stride_of z ≤ n
  pub view_fits : p.height * p.stride ≤ m
  pub wide : p.width ≤ p.stride
