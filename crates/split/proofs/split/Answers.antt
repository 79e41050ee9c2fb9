-- `split::split` meets its contract: a refusal is answered with nothing written; else all that is lent is long enough, and both views are
-- written.
-- Assumes nothing.
use mathlib.Core.Path.{◌≡◌, refl, sym, ◌∙◌}
use Rattle.lent.specs.Refused.{number_in}
use Rattle.lent.proofs.Answered.{never_0, refused_as}
use Rattle.lent.proofs.Answered.{accepted as is_0}
use Rattle.split.specs.Split.{Planes, planes, lengths_of, split_number_of}
use Rattle.split.proofs.Calls.{accepted, refused, done, refused_answer}
use Rattle.split.proofs.split.Goals.{After-check-checked, In_default, Start}
use Rattle.split.proofs.split.Goals as goal

abbrev from : Start → Planes
from s = let a = s.args in planes a.y.now a.u.now a.v.now

abbrev main : Start → Planes
main s = let a = s.args in planes a.main_y.now a.main_u.now a.main_v.now

abbrev auxiliary : Start → Planes
auxiliary s = let a = s.args in planes a.auxiliary_y.now a.auxiliary_u.now a.auxiliary_v.now

-- what was found, of the planes that are lent
found : (c : After-check-checked)
    → let a = c.args in
    number_in c.check-checked.result ≡ split_number_of a.way a.size (lengths_of (planes a.y.now a.u.now a.v.now)) (lengths_of (planes a.main_y.now a.main_u.now a.main_v.now)) (lengths_of (planes a.auxiliary_y.now a.auxiliary_u.now a.auxiliary_v.now))
found c = c.check-checked.ensures ∙ (λ i. split_number_of c.args.way c.args.size (c.of-from.ensures i) (c.of-main.ensures i) (c.of-auxiliary.ensures i))

pub returns-in-Err : goal.returns-in-Err
returns-in-Err c =
    let s = (goal.at.returns-in-Err c).Start in
    refused _ _ (from s) (main s) (auxiliary s) (refused_as (found (goal.at.returns-in-Err c).After-check-checked) c.in-Err.is) (never_0 c.in-Err.refusal) (c.refused.ensures ∙ refused_answer c.args.way c.args.size c.in-Err.refusal)

pub both_views-requires : goal.both_views-requires
both_views-requires c =
    let f = accepted _ _ _ _ _ (is_0 (found (goal.at.both_views-requires c).After-check-checked) c.in_default.is) in
    record {
      macroblocks_fit = f.y_whole;
      macroblocks_fit_2 = f.u_whole;
      macroblocks_fit_3 = f.v_whole;
      room = f.main_room;
      room_2 = f.auxiliary_room;
    }

pub of-requires : goal.of-requires
of-requires c = (accepted _ _ _ _ _ (is_0 (found (goal.at.of-requires c).After-check-checked) c.in_default.is)).small

pub returns : goal.returns
returns c =
    let s = (goal.at.returns c).Start in
    done _ _ (from s) (main s) (auxiliary s) (sym (is_0 (found (goal.at.returns c).After-check-checked) c.in_default.is)) refl c.of.ensures c.both_views.ensures.written c.both_views.ensures.written_2
