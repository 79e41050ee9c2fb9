-- `agree::one::through` meets its contract: a number that is not 0 is answered with nothing written; else each of the three calls answers 0, and
-- leaves what its definition says.
-- Assumes nothing.
use Prim.Native.Nat.{ℕ}
use mathlib.Core.Path.{◌≡◌, ◌∙◌}
use mathlib.Core.List.{List}
use lib.ListN.{length}
use Rattle.lent.specs.Refused.{number_in}
use Rattle.lent.proofs.Answered.{accepted, refused_as, never_0}
use Rattle.split.specs.Split.{Planes, planes, lengths_of, split_number_of}
use Rattle.agree_law.specs.Through.{first_of, earlier_number_of}
use Rattle.agree_law.proofs.Number.{through_plainly}
use Rattle.agree_law.proofs.Ends.{through_refused, through_done}
use Rattle.agree.proofs.one.through.Goals.{After-check-checked}
use Rattle.agree.proofs.one.through.Goals as goal

abbrev from : After-check-checked → Planes
from c = planes c.args.y.now c.args.u.now c.args.v.now

abbrev main : After-check-checked → Planes
main c = planes c.args.main_y.now c.args.main_u.now c.args.main_v.now

abbrev auxiliary : After-check-checked → Planes
auxiliary c = planes c.args.auxiliary_y.now c.args.auxiliary_u.now c.args.auxiliary_v.now

abbrev old : After-check-checked → Planes
old c = planes c.args.qy.now c.args.qu.now c.args.qv.now

abbrev map : After-check-checked → List ℕ
map c = c.args.q_map.now

numbered : (c : After-check-checked) → number_in c.check-checked.result
    ≡ first_of (split_number_of c.args.way c.args.size (lengths_of (from c)) (lengths_of (main c)) (lengths_of (auxiliary c)))
    (earlier_number_of c.args.size (lengths_of (old c)) (length (map c)) (length c.args.rects.now))
numbered c =
    c.check-checked.ensures
    ∙ (λ i. first_of (split_number_of c.args.way c.args.size (c.of-from.ensures i) (c.of-main.ensures i) (c.of-auxiliary.ensures i)) (earlier_number_of c.args.size (c.of-earlier.ensures i) (length (map c)) (length c.args.rects.now)))

pub returns-in-Err : goal.returns-in-Err
returns-in-Err c =
    let a = c.args in
    rw c.refused.ensures (through_refused a.way a.size a.rects.now (from (goal.at.returns-in-Err c).After-check-checked) (main (goal.at.returns-in-Err c).After-check-checked) (auxiliary (goal.at.returns-in-Err c).After-check-checked) (old (goal.at.returns-in-Err c).After-check-checked) (map (goal.at.returns-in-Err c).After-check-checked) (refused_as (numbered (goal.at.returns-in-Err c).After-check-checked) c.in-Err.is) (never_0 _))

pub shape_of-main_y : goal.shape_of-main_y
shape_of-main_y c = c.split-views.auto.main_y

pub shape_of-main_u : goal.shape_of-main_u
shape_of-main_u c = c.split-views.auto.main_u

pub shape_of-main_v : goal.shape_of-main_v
shape_of-main_v c = c.split-views.auto.main_v

pub shape_of-auxiliary_y : goal.shape_of-auxiliary_y
shape_of-auxiliary_y c = c.split-views.auto.auxiliary_y

pub shape_of-auxiliary_u : goal.shape_of-auxiliary_u
shape_of-auxiliary_u c = c.split-views.auto.auxiliary_u

pub shape_of-auxiliary_v : goal.shape_of-auxiliary_v
shape_of-auxiliary_v c = c.split-views.auto.auxiliary_v

pub shape_of-qy : goal.shape_of-qy
shape_of-qy c = c.apply_auxiliary_view.auto.y ∙ c.apply_main_view.auto.y

pub shape_of-qu : goal.shape_of-qu
shape_of-qu c = c.apply_auxiliary_view.auto.u ∙ c.apply_main_view.auto.u

pub shape_of-qv : goal.shape_of-qv
shape_of-qv c = c.apply_auxiliary_view.auto.v ∙ c.apply_main_view.auto.v

pub shape_of-q_map : goal.shape_of-q_map
shape_of-q_map c = c.apply_auxiliary_view.auto.map ∙ c.apply_main_view.auto.map

pub returns : goal.returns
returns c =
    let a = c.args in
    through_done a.way a.size a.rects.now (from (goal.at.returns c).After-check-checked) (main (goal.at.returns c).After-check-checked) (auxiliary (goal.at.returns c).After-check-checked) (old (goal.at.returns c).After-check-checked) (map (goal.at.returns c).After-check-checked) (through_plainly a.way a.size a.rects.now (planes a.y.now a.u.now a.v.now) (planes a.main_y.now a.main_u.now a.main_v.now) (planes a.auxiliary_y.now a.auxiliary_u.now a.auxiliary_v.now) (planes a.qy.now a.qu.now a.qv.now) a.q_map.now
    ∙ accepted (numbered (goal.at.returns c).After-check-checked) c.in_default.is)
    c.split-views.ensures c.view_of-w.ensures c.layout_of-layout.ensures c.apply_main_view.ensures c.apply_auxiliary_view.ensures
