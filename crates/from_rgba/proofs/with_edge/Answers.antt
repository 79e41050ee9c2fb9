-- `from_rgba::with_edge` meets its contract: a refusal is answered with nothing written; else the input and the planes are long enough,
-- and the planes are made.
-- Assumes nothing.
use mathlib.Core.Path.{◌≡◌}
use lib.ListN.{length}
use Rattle.lent.proofs.Answered.{accepted, refused_as, never_0}
use Rattle.picture.proofs.Calls.{refused, done}
use Rattle.from_rgba.specs.FromRgba.{from_number_of, from_buffers_of}
use Rattle.from_rgba.proofs.FromRgbaOutcome.{from_0_exactly}
use Rattle.from_rgba.proofs.with_edge.Goals.{In_default}
use Rattle.from_rgba.proofs.with_edge.Goals as goal

pub returns-in-Err : goal.returns-in-Err
unfolding from_buffers_of
returns-in-Err c =
    let a = c.args in
    rw c.refused.ensures (refused (from_number_of a.size (length a.rgba.now) (length a.y.now) (length a.u.now) (length a.v.now)) a.y.now a.u.now a.v.now _ _ _
    (refused_as c.check-checked.ensures c.in-Err.is) (never_0 _))

number-0 : (c : In_default) → let a = c.args in from_number_of a.size (length a.rgba.now) (length a.y.now) (length a.u.now) (length a.v.now) ≡ 0
number-0 c = accepted c.check-checked.ensures c.in_default.is

-- where it is not refused, the input and the planes are as long as they must be
pub make_planes-requires : goal.make_planes-requires
make_planes-requires c =
    let a = c.args in
    let f = (from_0_exactly a.size (length a.rgba.now) (length a.y.now) (length a.u.now) (length a.v.now)).0 (number-0 (goal.at.make_planes-requires c).In_default) in
    record { pixels = f.0; y_fits = f.1.y_fits; u_fits = f.1.u_fits; v_fits = f.1.v_fits }

pub shape_of-y : goal.shape_of-y
shape_of-y c = c.make_planes.auto.y

pub shape_of-u : goal.shape_of-u
shape_of-u c = c.make_planes.auto.u

pub shape_of-v : goal.shape_of-v
shape_of-v c = c.make_planes.auto.v

pub returns : goal.returns
unfolding from_buffers_of
returns c =
    let a = c.args in
    rw c.done.ensures (done (from_number_of a.size (length a.rgba.now) (length a.y.now) (length a.u.now) (length a.v.now)) a.y.now a.u.now a.v.now _ _ _ (number-0 (goal.at.returns c).In_default) c.make_planes.ensures.y c.make_planes.ensures.u c.make_planes.ensures.v)
