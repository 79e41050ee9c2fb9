-- `strict::apply_main_view_strict` meets its contract: a number that is not 0 is answered with nothing run; else the clipping call is run, whose
-- number is the same.
-- Assumes nothing.
use mathlib.Core.Path.{◌≡◌}
use Rattle.lent.proofs.Answered.{accepted, refused_as, never_0}
use Rattle.strict.specs.Calls.{lent_strict_number_of}
use Rattle.strict.proofs.Ends.{main_refused, main_run}
use Rattle.strict.proofs.apply_main_view_strict.Goals as goal

pub returns-in-Err : goal.returns-in-Err
returns-in-Err c =
    let a = c.args in
    rw c.refused.ensures (main_refused a.size a.w a.rects.now a.vy.now a.vu.now a.vv.now a.y.now a.u.now a.v.now a.map.now (refused_as c.check-checked.ensures c.in-Err.is) (never_0 _))

pub apply_main_view-requires : goal.apply_main_view-requires
apply_main_view-requires c = tt

pub shape_of-y : goal.shape_of-y
shape_of-y c = c.apply_main_view.auto.y

pub shape_of-u : goal.shape_of-u
shape_of-u c = c.apply_main_view.auto.u

pub shape_of-v : goal.shape_of-v
shape_of-v c = c.apply_main_view.auto.v

pub shape_of-map : goal.shape_of-map
shape_of-map c = c.apply_main_view.auto.map

-- where the call is run the number is 0
pub returns : goal.returns
returns c =
    let a = c.args in
    let number-0 : lent_strict_number_of a.size a.w a.rects.now a.vy.now a.vu.now a.vv.now a.y.now a.u.now a.v.now a.map.now ≡ 0 =
    accepted c.check-checked.ensures c.in_default.is in
    main_run a.size a.w a.rects.now a.vy.now a.vu.now a.vv.now a.y.now a.u.now a.v.now a.map.now number-0 c.apply_main_view.ensures
