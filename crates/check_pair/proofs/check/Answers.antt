-- `check_pair::check` meets its contract: a refusal is answered alone, and else the verdict on both views, which lie over the planes that are lent.
-- Assumes nothing.
use mathlib.Core.Path.{◌≡◌, sym, ap, ◌∙◌}
use Rattle.lent.proofs.Answered.{accepted, never_0, refused_as}
use Rattle.split_views.specs.Views.{Planes, planes}
use Rattle.split.specs.Split.{lengths_of}
use Rattle.check_pair.specs.Number.{check_number_of}
use Rattle.check_pair.specs.Verdict.{pair_verdict_of}
use Rattle.check_pair.specs.Checked.{answered_of, refused_with}
use Rattle.check_pair.proofs.Exactly.{check_0_splits, refused_says_nothing, accepted_answers}
use Rattle.check_pair.proofs.check.Goals.{In-Ok, Start}
use Rattle.check_pair.proofs.check.Goals as goal

abbrev picture : Start → Planes
picture s = planes s.args.y.now s.args.u.now s.args.v.now

abbrev main : Start → Planes
main s = planes s.args.main_y.now s.args.main_u.now s.args.main_v.now

abbrev auxiliary : Start → Planes
auxiliary s = planes s.args.auxiliary_y.now s.args.auxiliary_u.now s.args.auxiliary_v.now

pub returns-in-Err : goal.returns-in-Err
returns-in-Err c =
    let s = (goal.at.returns-in-Err c).Start in
    let is = refused_as c.check-checked.ensures.number c.in-Err.is in
    c.refused.ensures
    ∙ ap refused_with is
    ∙ sym (refused_says_nothing c.args.way c.args.size (picture s) c.args.main (main s) c.args.auxiliary (auxiliary s) (λ e. never_0 c.in-Err.refusal (is ∙ e)))

-- the number of an accepted check is 0
zero : (c : In-Ok)
    → let a = c.args in
    check_number_of a.way a.size (lengths_of (planes a.y.now a.u.now a.v.now)) a.main (lengths_of (planes a.main_y.now a.main_u.now a.main_v.now)) a.auxiliary (lengths_of (planes a.auxiliary_y.now a.auxiliary_u.now a.auxiliary_v.now)) ≡ 0
zero c = accepted c.check-checked.ensures.number c.in-Ok.is

pub pair_verdict-requires-clause-long : goal.pair_verdict-requires-clause-long
pair_verdict-requires-clause-long c = (check_0_splits _ _ _ _ _ _ _ (zero (goal.at.pair_verdict-requires-clause-long c).In-Ok)).0

pub pair_verdict-requires-clause-small : goal.pair_verdict-requires-clause-small
pair_verdict-requires-clause-small c = (check_0_splits _ _ _ _ _ _ _ (zero (goal.at.pair_verdict-requires-clause-small c).In-Ok)).1

pub returns-in-Ok : goal.returns-in-Ok
returns-in-Ok c =
    let s = (goal.at.returns-in-Ok c).Start in
    let first = c.in-Ok.ensures.over.0 in
    let second = c.in-Ok.ensures.over.1 in
    c.answered.ensures
    ∙ ap answered_of c.pair_verdict.ensures
    ∙ (λ i. answered_of (pair_verdict_of c.args.way c.args.size (picture s) (first.sizes i) (planes (first.over_y i).now (first.over_u i).now (first.over_v i).now) (second.sizes i) (planes (second.over_y i).now (second.over_u i).now (second.over_v i).now)))
    ∙ sym (accepted_answers c.args.way c.args.size (picture s) c.args.main (main s) c.args.auxiliary (auxiliary s) (zero (goal.at.returns-in-Ok c).In-Ok))
