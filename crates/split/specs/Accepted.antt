-- What a split that answers 0 has.
--
--   SplitAccepted t z p m a   the planes of the picture and of both views, of the lengths p, m and a, are long enough, and the sizes fit a view
use Rattle.std.specs.Prelude.{◌≡◌, false}
use Rattle.picture.specs.declared.Size.{Size}
use Rattle.picture.specs.Sizes.{stride_of, rows_of}
use Rattle.layout.specs.declared.Way.{Way}
use Rattle.split_views.specs.Fits.{MacroblocksFit, Room}
use Rattle.split.specs.declared.number.PlaneLengths.{PlaneLengths}
use Rattle.split.specs.Number.{split_wide_of, too_large}

pub record SplitAccepted (t : Way) (z : Size) (p m a : PlaneLengths) : Type 0 where
  pub y_whole : MacroblocksFit p.y (stride_of z) (rows_of z)
  pub u_whole : MacroblocksFit p.u (stride_of z) (rows_of z)
  pub v_whole : MacroblocksFit p.v (stride_of z) (rows_of z)
  pub main_room : Room m.y m.u m.v (split_wide_of t z) (rows_of z)
  pub auxiliary_room : Room a.y a.u a.v (split_wide_of t z) (rows_of z)
  pub small : too_large (split_wide_of t z) z ≡ false
