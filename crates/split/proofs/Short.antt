-- Where none of one view's planes is too short. Assumes nothing.
use Prim.Native.Nat.{ℕ, ◌/◌}
use mathlib.Core.Path.{◌≡◌}
use mathlib.Core.Bool.{Bool, false, ◌||◌}
use borrow.Author.Tests.{ltb-false}
use Rattle.lent.specs.Sizes.{too_short}
use Rattle.lent.proofs.Exactly.{nor}
use Rattle.picture.specs.declared.Size.{Size}
use Rattle.picture.specs.Sizes.{rows_of}
use Rattle.split_views.specs.Fits.{Room}
use Rattle.split.specs.declared.number.PlaneLengths.{PlaneLengths}
use Rattle.split.specs.Number.{view_short}

module _ (W : ℕ) (z : Size) (n : PlaneLengths) where
  abbrev y_short : Bool
  y_short = too_short W (rows_of z) n.y

  abbrev u_short : Bool
  u_short = too_short (W / 2) (rows_of z / 2) n.u

  abbrev v_short : Bool
  v_short = too_short (W / 2) (rows_of z / 2) n.v

  -- where none is too short, all that is lent is long enough
  pub view_room : view_short W z n ≡ false → Room n.y n.u n.v W (rows_of z)
  unfolding view_short
  view_room e =
      let yu = (nor (y_short || u_short) v_short).0 e in
      let y = (nor y_short u_short).0 yu.0 in
      record { y_room = ltb-false _ _ y.0; u_room = ltb-false _ _ y.1; v_room = ltb-false _ _ yu.1 }
