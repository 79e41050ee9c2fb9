-- `apply_main::apply_main_view` meets its contract: a refusal returns before any write, and each plane has one call.
-- Assumes nothing.
use mathlib.Core.Path.{◌≡◌}
use lib.ListN.{length}
use Rattle.lent.proofs.Answered.{accepted, refused_as, never_0}
use Rattle.rects.specs.Number.{ApplyAccepted, lent_number_of}
use Rattle.rects.proofs.Number.{apply_fits}
use Rattle.apply_main.proofs.Main.{main_refused, main_done}
use Rattle.apply_main.proofs.apply_main_view.Goals.{In_default}
use Rattle.apply_main.proofs.apply_main_view.Goals as goal

-- the number of an accepted call is 0, and what such a call has
zero : (c : In_default)
    → let a = c.args in
    lent_number_of a.size a.w a.rects.now a.vy.now a.vu.now a.vv.now a.y.now a.u.now a.v.now ≡ 0
zero c = accepted c.check-checked.ensures.number c.in_default.is

has : (c : In_default)
    → let a = c.args in
    ApplyAccepted a.size a.w (length a.y.now) (length a.u.now) (length a.v.now) (length a.vy.now) (length a.vu.now) (length a.vv.now)
has c = apply_fits _ _ _ _ _ _ _ _ _ (zero c)

pub returns-in-Err : goal.returns-in-Err
returns-in-Err c =
    let a = c.args in
    rw c.refused.ensures (main_refused a.size a.w a.rects.now a.vy.now a.vu.now a.vv.now a.y.now a.u.now a.v.now (refused_as c.check-checked.ensures.number c.in-Err.is) (never_0 _))

pub luma_rects-requires : goal.luma_rects-requires
luma_rects-requires c =
    let f = has (goal.at.luma_rects-requires c).In_default in
    record { plane_fits = f.planes.y_fits; view_fits = f.view.y_long; wide = f.view.luma_wide }

pub chroma_rects-requires : goal.chroma_rects-requires
chroma_rects-requires c =
    let f = has (goal.at.chroma_rects-requires c).In_default in
    record { plane_fits = f.planes.u_fits; view_fits = f.view.u_long; wide = f.view.chroma_wide }

pub chroma_rects-requires-2 : goal.chroma_rects-requires-2
chroma_rects-requires-2 c =
    let f = has (goal.at.chroma_rects-requires-2 c).In_default in
    record { plane_fits = f.planes.v_fits; view_fits = f.view.v_long; wide = f.view.chroma_wide }

pub shape_of-y : goal.shape_of-y
shape_of-y c = c.luma_rects.auto.y

pub shape_of-u : goal.shape_of-u
shape_of-u c = c.chroma_rects.auto.plane

pub shape_of-v : goal.shape_of-v
shape_of-v c = c.chroma_rects-2.auto.plane

pub returns : goal.returns
returns c =
    let a = c.args in
    rw c.done.ensures (main_done a.size a.w a.rects.now a.vy.now a.vu.now a.vv.now a.y.now a.u.now a.v.now (zero (goal.at.returns c).In_default) c.luma_rects.ensures c.chroma_rects.ensures c.chroma_rects-2.ensures)
