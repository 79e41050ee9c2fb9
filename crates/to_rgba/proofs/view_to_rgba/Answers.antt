-- `to_rgba::view_to_rgba` meets its contract: a refusal writes nothing, and the planes of an accepted view hold all its rows.
-- Assumes nothing.
use Prim.Native.Nat.{◌*◌, ◌≤◌}
use native.Mathlib.Omega.{arith}
use mathlib.Core.Path.{◌≡◌, refl, sym, ◌∙◌}
use lib.ListN.{length}
use Rattle.colour.specs.Limited.{reverse_by}
use Rattle.lent.proofs.Answered.{accepted, refused_as, never_0}
use Rattle.picture.proofs.Sizes.{plane_small}
use Rattle.to_rgba.specs.View.{view_to_rgba_count_of, view_to_rgba_number_of, view_to_rgba_of}
use Rattle.to_rgba.proofs.Exactly.{view_rgba_0_exactly}
use Rattle.to_rgba.proofs.Ends.{refused, answered}
use Rattle.to_rgba.proofs.view_to_rgba.Goals.{In-Ok}
use Rattle.to_rgba.proofs.view_to_rgba.Goals as goal

-- columns and rows of a view are few, so that nothing wraps
pub overflow_mul-count : goal.overflow_mul-count
overflow_mul-count c = let w = c.args.w in let few : w.width * w.height ≤ 4294967296 = plane_small (omega arith) (omega arith) in omega arith

pub overflow_mul-count-2 : goal.overflow_mul-count-2
overflow_mul-count-2 c = let w = c.args.w in let few : w.width * w.height ≤ 4294967296 = plane_small (omega arith) (omega arith) in omega arith

-- the number of an accepted call is 0
zero : (c : In-Ok) → let a = c.args in
    0 ≡ view_to_rgba_number_of a.w (view_to_rgba_count_of a.w) (length a.y.now) (length a.u.now) (length a.v.now) (length a.out.now)
zero c = sym (accepted c.check_view.ensures.number c.in-Ok.is)

pub returns-in-Err : goal.returns-in-Err
returns-in-Err c = rw c.refused.ensures (refused _ _ (refused_as c.check_view.ensures.number c.in-Err.is) _ (never_0 _))

pub view_rows-requires : goal.view_rows-requires
view_rows-requires c =
    let a = c.args in
    let over = c.in-Ok.ensures.over in
    let free = (view_rgba_0_exactly a.w (view_to_rgba_count_of a.w) (length a.y.now) (length a.u.now) (length a.v.now) (length a.out.now)).0
    (sym (zero (goal.at.view_rows-requires c).In-Ok)) in
    rw over.sizes free.1

pub returns : goal.returns
returns c =
    let a = c.args in
    let over = c.in-Ok.ensures.over in
    rw c.done.ensures (answered _ _ (zero (goal.at.returns c).In-Ok) refl refl (c.view_rows.ensures
    ∙ (λ i. view_to_rgba_of (reverse_by a.matrix) (over.sizes i) (over.over_y i).now (over.over_u i).now (over.over_v i).now a.out.now)))
