-- `agree::both` meets its contract: a number that is not 0 is answered with nothing written; else both walks answer 0, and each leaves what
-- `through` promises.
-- Assumes nothing.
use Prim.Native.Nat.{ℕ}
use mathlib.Core.Path.{◌≡◌, sym, ◌∙◌}
use mathlib.Core.List.{List}
use lib.ListN.{length}
use Rattle.lent.specs.Refused.{number_in}
use Rattle.lent.proofs.Answered.{accepted, refused_as, never_0}
use Rattle.split.specs.Split.{Planes, planes, split_number_of}
use Rattle.agree_law.specs.Through.{first_of, earlier_number_of}
use Rattle.agree_law.specs.Both.{both_number_of}
use Rattle.agree_law.proofs.Number.{both_plainly}
use Rattle.agree_law.proofs.Ends.{both_refused, both_done}
use Rattle.agree.proofs.both.Goals.{After-check-checked}
use Rattle.agree.proofs.both.Goals as goal

abbrev from : After-check-checked → Planes
from c = planes c.args.y.now c.args.u.now c.args.v.now

abbrev main : After-check-checked → Planes
main c = planes c.args.main_y.now c.args.main_u.now c.args.main_v.now

abbrev auxiliary : After-check-checked → Planes
auxiliary c = planes c.args.auxiliary_y.now c.args.auxiliary_u.now c.args.auxiliary_v.now

abbrev one : After-check-checked → Planes
one c = planes c.args.first_y.now c.args.first_u.now c.args.first_v.now

abbrev other : After-check-checked → Planes
other c = planes c.args.second_y.now c.args.second_u.now c.args.second_v.now

abbrev one_map : After-check-checked → List ℕ
one_map c = c.args.first_map.now

abbrev other-map : After-check-checked → List ℕ
other-map c = c.args.second_map.now

numbered : (c : After-check-checked) → number_in c.check-checked.result ≡ both_number_of c.args.one c.args.other c.args.size c.args.rects.now (from c) (main c) (auxiliary c) (one c) (one_map c) (other c) (other-map c)
numbered c =
    c.check-checked.ensures
    ∙ (λ i. first_of (first_of (split_number_of c.args.one c.args.size (c.of-from.ensures i) (c.of-main.ensures i) (c.of-auxiliary.ensures i)) (earlier_number_of c.args.size (c.of-first.ensures i) (length (one_map c)) (length c.args.rects.now)))
    (first_of (split_number_of c.args.other c.args.size (c.of-from.ensures i) (c.of-main.ensures i) (c.of-auxiliary.ensures i)) (earlier_number_of c.args.size (c.of-second.ensures i) (length (other-map c)) (length c.args.rects.now))))
    ∙ sym (both_plainly c.args.one c.args.other c.args.size c.args.rects.now (from c) (main c) (auxiliary c) (one c) (one_map c) (other c) (other-map c))

pub returns-in-Err : goal.returns-in-Err
returns-in-Err c = rw c.refused.ensures (both_refused c.args.one c.args.other c.args.size c.args.rects.now (from (goal.at.returns-in-Err c).After-check-checked) (main (goal.at.returns-in-Err c).After-check-checked) (auxiliary (goal.at.returns-in-Err c).After-check-checked) (one (goal.at.returns-in-Err c).After-check-checked) (one_map (goal.at.returns-in-Err c).After-check-checked) (other (goal.at.returns-in-Err c).After-check-checked) (other-map (goal.at.returns-in-Err c).After-check-checked) (refused_as (numbered (goal.at.returns-in-Err c).After-check-checked) c.in-Err.is) (never_0 _))

pub shape_of-main_y : goal.shape_of-main_y
shape_of-main_y c = c.through-2.auto.main_y ∙ c.through.auto.main_y

pub shape_of-main_u : goal.shape_of-main_u
shape_of-main_u c = c.through-2.auto.main_u ∙ c.through.auto.main_u

pub shape_of-main_v : goal.shape_of-main_v
shape_of-main_v c = c.through-2.auto.main_v ∙ c.through.auto.main_v

pub shape_of-auxiliary_y : goal.shape_of-auxiliary_y
shape_of-auxiliary_y c = c.through-2.auto.auxiliary_y ∙ c.through.auto.auxiliary_y

pub shape_of-auxiliary_u : goal.shape_of-auxiliary_u
shape_of-auxiliary_u c = c.through-2.auto.auxiliary_u ∙ c.through.auto.auxiliary_u

pub shape_of-auxiliary_v : goal.shape_of-auxiliary_v
shape_of-auxiliary_v c = c.through-2.auto.auxiliary_v ∙ c.through.auto.auxiliary_v

pub shape_of-first_y : goal.shape_of-first_y
shape_of-first_y c = c.through.auto.qy

pub shape_of-first_u : goal.shape_of-first_u
shape_of-first_u c = c.through.auto.qu

pub shape_of-first_v : goal.shape_of-first_v
shape_of-first_v c = c.through.auto.qv

pub shape_of-first_map : goal.shape_of-first_map
shape_of-first_map c = c.through.auto.q_map

pub shape_of-second_y : goal.shape_of-second_y
shape_of-second_y c = c.through-2.auto.qy

pub shape_of-second_u : goal.shape_of-second_u
shape_of-second_u c = c.through-2.auto.qu

pub shape_of-second_v : goal.shape_of-second_v
shape_of-second_v c = c.through-2.auto.qv

pub shape_of-second_map : goal.shape_of-second_map
shape_of-second_map c = c.through-2.auto.q_map

pub returns : goal.returns
returns c =
    both_done c.args.one c.args.other c.args.size c.args.rects.now (from (goal.at.returns c).After-check-checked) (main (goal.at.returns c).After-check-checked) (auxiliary (goal.at.returns c).After-check-checked) (one (goal.at.returns c).After-check-checked) (one_map (goal.at.returns c).After-check-checked) (other (goal.at.returns c).After-check-checked) (other-map (goal.at.returns c).After-check-checked) (accepted (numbered (goal.at.returns c).After-check-checked) c.in_default.is)
    c.through.ensures c.through-2.ensures
