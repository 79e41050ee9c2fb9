-- `picture::new` meets its contract: a refusal is answered with nothing written; else the planes are long enough, and each
-- is filled.
-- Assumes nothing.
use Prim.Native.Nat.{ℕ, ◌*◌, ◌≤◌}
use mathlib.Core.Path.{◌≡◌, sym, ◌∙◌}
use mathlib.Core.List.{List}
use lib.ListN.{length}
use native.Mathlib.Omega.{arith}
use Rattle.lent.proofs.Bools.{cond-true, cond-false}
use Rattle.lent.specs.Paint.{painted, whole}
use Rattle.picture.specs.Sizes.{plane_of}
use Rattle.picture.specs.New.{new_number_of, new_buffers_of}
use Rattle.picture.proofs.Calls.{refused, done}
use Rattle.picture.proofs.NewOutcome.{new_0_exactly}
use Rattle.picture.proofs.new.Goals.{After-rows-rows, Else-planes_short}
use Rattle.picture.proofs.new.Goals as goal

pub returns-then-planes_short : goal.returns-then-planes_short
unfolding new_buffers_of
returns-then-planes_short c =
    let a = c.args in
    rw c.refused.ensures (refused (new_number_of a.size (length a.y.now) (length a.u.now) (length a.v.now)) a.y.now a.u.now a.v.now _ _ _ (sym (cond-true _ 1 0 (sym c.planes_short.ensures ∙ c.if-planes_short.true))) (λ e. omega arith))

number-0 : (c : Else-planes_short) → let a = c.args in new_number_of a.size (length a.y.now) (length a.u.now) (length a.v.now) ≡ 0
number-0 c = cond-false _ 1 0 (sym c.planes_short.ensures ∙ c.if-planes_short.false)

-- where it is not refused, each plane is as long as it must be
fits : (c : After-rows-rows) → let a = c.args in let n = c.rows-rows.result * c.stride-stride.result in (n ≤ length a.y.now) × (n ≤ length a.u.now) × (n ≤ length a.v.now)
fits c =
    let a = c.args in
    let f = (new_0_exactly a.size (length a.y.now) (length a.u.now) (length a.v.now)).0 (cond-false _ 1 0 (sym c.planes_short.ensures ∙ c.if-planes_short.false)) in
    rw (c.rows-rows.ensures.0, c.stride-stride.ensures.0) (f.y_fits, f.u_fits, f.v_fits)

-- and what is filled is the picture's plane
filled : (c : After-rows-rows) (s : ℕ → ℕ → ℕ) (xs : List ℕ) → painted c.stride-stride.result c.rows-rows.result whole s xs ≡ plane_of c.args.size s xs
filled c s xs = λ i. painted (c.stride-stride.ensures.0 i) (c.rows-rows.ensures.0 i) whole s xs

pub fill_plane-requires : goal.fill_plane-requires
fill_plane-requires c = (fits (goal.at.fill_plane-requires c).After-rows-rows).0

pub fill_plane-requires-2 : goal.fill_plane-requires-2
fill_plane-requires-2 c = (fits (goal.at.fill_plane-requires-2 c).After-rows-rows).1

pub fill_plane-requires-3 : goal.fill_plane-requires-3
fill_plane-requires-3 c = (fits (goal.at.fill_plane-requires-3 c).After-rows-rows).2

pub shape_of-y : goal.shape_of-y
shape_of-y c = c.fill_plane.auto.plane

pub shape_of-u : goal.shape_of-u
shape_of-u c = c.fill_plane-2.auto.plane

pub shape_of-v : goal.shape_of-v
shape_of-v c = c.fill_plane-3.auto.plane

pub returns : goal.returns
unfolding new_buffers_of
returns c =
    let a = c.args in
    rw c.done.ensures (done _ a.y.now a.u.now a.v.now _ _ _ (number-0 (goal.at.returns c).Else-planes_short)
    (c.fill_plane.ensures ∙ filled (goal.at.returns c).After-rows-rows _ a.y.now) (c.fill_plane-2.ensures ∙ filled (goal.at.returns c).After-rows-rows _ a.u.now) (c.fill_plane-3.ensures ∙ filled (goal.at.returns c).After-rows-rows _ a.v.now))
