-- Demand 3's own walk: the picture is sent one way and goes onto the first earlier picture, then another way onto the second, over one list.
-- The demand's ways are V1 and V2, by either rule. The views' buffers are used again: what the first walk leaves in them is what the second
-- one finds.
--
--   second_of t t' z rects p m a q'                the second earlier picture q' after both walks
--   both_number_of t t' z rects p m a q k q' k'     the first number that a step of the six would give, 0 where none would refuse; k and k' are
--                                                 the earlier pictures' maps
--   both_buffers_of n t t' z rects p m a q k q' k'  the views' buffers and both earlier pictures with their maps afterwards, the number being n
--   BothOutcome ...          how it ends: the answer r, the views' buffers m' and a', and x, l and x', l', which the earlier pictures q and q' and
--                            their maps k and k' have become. Number and every lent byte are equations, and 0 comes with demand 3 of both
use Rattle.std.specs.Prelude.{ℕ, ◌≡◌, List, ◌++◌}
use Rattle.lent.specs.declared.Answer.{Answer}
use Rattle.lent.specs.Outcome.{Outcome, answer_of}
use Rattle.picture.specs.declared.Size.{Size}
use Rattle.layout.specs.declared.Way.{Way}
use Rattle.split.specs.Split.{Planes}
use Rattle.agree_law.specs.Agrees.{picture_of, Agrees, Completed}
use Rattle.agree_law.specs.Through.{main_view_of, auxiliary_view_of, through_of, through_map_of, first_of, through_number_of}
use Rattle.agree_law.specs.Through.{buffers_in, picture_in, planes_after, picture_after}

abbrev pub second_of : Way → Way → Size → List ℕ → Planes → Planes → Planes → Planes → Planes
second_of t t' z rects p m a q' = through_of t' z rects p (main_view_of t z p m) (auxiliary_view_of t z p a) q'

unfoldable pub both_number_of : Way → Way → Size → List ℕ → Planes → Planes → Planes → Planes → List ℕ → Planes → List ℕ → ℕ
both_number_of t t' z rects p m a q k q' k' =
    first_of (through_number_of t z rects p m a q k) (through_number_of t' z rects p (main_view_of t z p m) (auxiliary_view_of t z p a) q' k')

unfoldable pub both_buffers_of : ℕ → Way → Way → Size → List ℕ → Planes → Planes → Planes → Planes → List ℕ → Planes → List ℕ → List (List ℕ)
both_buffers_of n t t' z rects p m a q k q' k' =
    planes_after n m (main_view_of t' z p (main_view_of t z p m))
    ++ (planes_after n a (auxiliary_view_of t' z p (auxiliary_view_of t z p a))
    ++ (picture_after n q (through_of t z rects p m a q) k (through_map_of t z rects k)
    ++ picture_after n q' (second_of t t' z rects p m a q') k' (through_map_of t' z rects k')))

pub record BothOutcome (t t' : Way) (z : Size) (rects : List ℕ) (p m a q : Planes) (k : List ℕ) (q' : Planes) (k' : List ℕ)
    (r : Answer) (m' a' x : Planes) (l : List ℕ) (x' : Planes) (l' : List ℕ) : Type 0 where
  pub ends : Outcome (answer_of (both_number_of t t' z rects p m a q k q' k') 0)
      (both_buffers_of (both_number_of t t' z rects p m a q k q' k') t t' z rects p m a q k q' k')
      r (buffers_in m' ++ (buffers_in a' ++ (picture_in x l ++ picture_in x' l')))
  pub first : r.number ≡ 0 → Agrees z rects (picture_of z p) (picture_of z q) (picture_of z x)
  pub first_completed : r.number ≡ 0 → Completed z rects k l
  pub second : r.number ≡ 0 → Agrees z rects (picture_of z p) (picture_of z q') (picture_of z x')
  pub second_completed : r.number ≡ 0 → Completed z rects k' l'
