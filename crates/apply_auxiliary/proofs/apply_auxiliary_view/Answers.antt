-- `apply_auxiliary::apply_auxiliary_view` meets its contract: a refusal returns before any write, U and V have one call, and Y has none.
-- Assumes nothing.
use mathlib.Core.Path.{◌≡◌, ◌∙◌}
use Rattle.lent.proofs.Answered.{accepted, refused_as, never_0}
use Rattle.layout.specs.declared.Chroma.TheVariants.{CU, CV}
use Rattle.rects.specs.Number.{lent_number_of}
use Rattle.rects.proofs.Number.{apply_fits}
use Rattle.apply_auxiliary.proofs.Ends.{auxiliary_refused, auxiliary_done, after_over}
use Rattle.apply_auxiliary.proofs.apply_auxiliary_view.Goals.{In-Ok}
use Rattle.apply_auxiliary.proofs.apply_auxiliary_view.Goals as goal

-- the number of an accepted call is 0
zero : (c : In-Ok)
    → let a = c.args in
    lent_number_of a.size a.w a.rects.now a.vy.now a.vu.now a.vv.now a.y.now a.u.now a.v.now ≡ 0
zero c = accepted c.check.ensures.number c.in-Ok.is

pub returns-in-Err : goal.returns-in-Err
returns-in-Err c =
    let a = c.args in
    rw c.refused.ensures
    (auxiliary_refused a.layout a.size a.w a.rects.now a.vy.now a.vu.now a.vv.now a.y.now a.u.now a.v.now (refused_as c.check.ensures.number c.in-Err.is) (never_0 c.in-Err.refusal))

pub auxiliary_rects-requires : goal.auxiliary_rects-requires
auxiliary_rects-requires c =
    let f = apply_fits _ _ _ _ _ _ _ _ _ (zero (goal.at.auxiliary_rects-requires c).In-Ok) in record {
      size_in_bounds = f.planes.u_fits;
      size_in_bounds_2 = f.planes.v_fits;
    }

pub returns : goal.returns
returns c =
    let a = c.args in
    let over = c.in-Ok.ensures.over in
    rw c.done.ensures
    (auxiliary_done a.layout a.size a.w a.rects.now a.vy.now a.vu.now a.vv.now a.y.now a.u.now a.v.now (zero (goal.at.returns c).In-Ok)
    (c.auxiliary_rects.ensures.u ∙ after_over a.layout CU a.size _ _ _ _ _ over a.rects.now a.u.now)
    (c.auxiliary_rects.ensures.v ∙ after_over a.layout CV a.size _ _ _ _ _ over a.rects.now a.v.now))
