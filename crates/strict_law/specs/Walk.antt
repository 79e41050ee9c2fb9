-- Demand 3 in the strict form (R95): "in the strict form demand 3 is read for accepted lists only". A picture is split, and the strict calls apply its
-- main view, and then its auxiliary view, to an earlier picture.
--
--   strict_number_on t z rects v q k     the number of a strict apply call of the view v, of a split's size, onto the picture q with its map k
--   StrictWalk ...       how the three calls ended, the picture p being sent the way t. The split answered r and left m' and a' in the views' buffers m
--                        and a; the main view's call answered r₁ and left mid and half of the earlier picture q and its map k; the auxiliary view's
--                        call answered r₂ and left x and l of those
use Rattle.std.specs.Prelude.{ℕ, List, ◌++◌}
use Rattle.lent.specs.declared.Answer.{Answer}
use Rattle.picture.specs.declared.Size.{Size}
use Rattle.layout.specs.Maps.{layout_of}
use Rattle.layout.specs.declared.Way.{Way}
use Rattle.split.specs.declared.number.Views.{Views}
use Rattle.split.specs.Split.{Planes, SplitOutcome}
use Rattle.agree_law.specs.Through.{buffers_in, picture_in, view_of, view_in}
use Rattle.strict.specs.Calls.{lent_strict_number_of, StrictMainOutcome, StrictAuxiliaryOutcome}

abbrev pub strict_number_on : Way → Size → List ℕ → Planes → Planes → List ℕ → ℕ
strict_number_on t z rects v q k = lent_strict_number_of z (view_of t z) rects v.y v.u v.v q.y q.u q.v k

pub record StrictWalk (t : Way) (z : Size) (rects : List ℕ) (p m a q : Planes) (k : List ℕ)
    (r : Views) (r₁ r₂ : Answer) (m' a' mid : Planes) (half : List ℕ) (x : Planes) (l : List ℕ) : Type 0 where
  pub split : SplitOutcome t z p m a r (buffers_in m' ++ buffers_in a')
  pub main : StrictMainOutcome z (view_in r) rects m'.y m'.u m'.v q.y q.u q.v k r₁ (picture_in mid half)
  pub auxiliary : StrictAuxiliaryOutcome (layout_of t z.width r.width) z (view_in r) rects
      a'.y a'.u a'.v mid.y mid.u mid.v half r₂ (picture_in x l)
