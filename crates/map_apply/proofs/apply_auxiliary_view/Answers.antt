-- `map_apply::apply_auxiliary_view` meets its contract: a short map is refused with nothing run; else the call without the map is run, its refusal is
-- passed on and leaves the map, and where it is done the map is long enough, and every rectangle's blocks are written.
-- Assumes nothing.
use Prim.Native.Nat.{ℕ}
use mathlib.Core.Path.{◌≡◌, sym, ap, ◌∙◌}
use mathlib.Core.Bool.{false}
use mathlib.Core.List.{List}
use lib.ListN.{length}
use Rattle.lent.specs.Paint.{painted}
use Rattle.rects.specs.Rects.{taken}
use Rattle.apply_auxiliary.specs.Auxiliary.{auxiliary_buffers_of}
use Rattle.map.specs.Map.{across_of, down_of, turned_at, map_short}
use Rattle.map.proofs.Sizes.{map_fit_exactly}
use Rattle.map_apply.specs.declared.Limits.{Limits}
use Rattle.map_apply.specs.Blocks.{map_after}
use Rattle.map_apply.specs.Blocks.Call.{Auxiliary}
use Rattle.map_apply.specs.Boxes.{in_blocks}
use Rattle.map_apply.proofs.Boxes.{map_completed}
use Rattle.map_apply.proofs.Ends.{auxiliary_kept, ends_short, ends_passed, ends_done}
use Rattle.map_apply.proofs.apply_auxiliary_view.Goals.{Else-map_short, Start}
use Rattle.map_apply.proofs.apply_auxiliary_view.Goals as goal

-- the planes by a number, and the map after an accepted call
abbrev planes : Start → ℕ → List (List ℕ)
planes s = let a = s.args in λ n. auxiliary_buffers_of n a.layout a.size a.w a.rects.now a.vy.now a.vu.now a.vv.now a.y.now a.u.now a.v.now

abbrev marked : Start → List ℕ
marked s = let a = s.args in map_after a.size (Auxiliary a.layout a.w a.rects.now) a.map.now

pub returns-then-map_short : goal.returns-then-map_short
returns-then-map_short c =
    let a = c.args in
    rw c.refused.ensures (ends_short a.size a.w a.rects.now a.vy.now a.vu.now a.vv.now a.y.now a.u.now a.v.now a.map.now (planes (goal.at.returns-then-map_short c).Start) (marked (goal.at.returns-then-map_short c).Start)
    (sym c.map_short.ensures ∙ c.if-map_short.true)
    (λ n some. auxiliary_kept a.size a.w a.rects.now a.vy.now a.vu.now a.vv.now a.y.now a.u.now a.v.now n some a.layout))

long : (e : Else-map_short) → let a = e.args in map_short a.size (length a.map.now) ≡ false
long e = sym e.map_short.ensures ∙ e.if-map_short.false

pub returns-then-given-ne0 : goal.returns-then-given-ne0
returns-then-given-ne0 c =
    let a = c.args in
    ends_passed a.size a.w a.rects.now a.vy.now a.vu.now a.vv.now a.y.now a.u.now a.v.now a.map.now (planes (goal.at.returns-then-given-ne0 c).Start) (marked (goal.at.returns-then-given-ne0 c).Start)
    (long (goal.at.returns-then-given-ne0 c).Else-map_short) c.apply_auxiliary_view-given.ensures c.if-given-ne0.true

pub complete_rects-requires : goal.complete_rects-requires
complete_rects-requires c = (map_fit_exactly _ _).0 (long (goal.at.complete_rects-requires c).Else-map_short)

pub returns : goal.returns
returns c =
    let a = c.args in
    ends_done a.size a.w a.rects.now a.vy.now a.vu.now a.vv.now a.y.now a.u.now a.v.now a.map.now (planes (goal.at.returns c).Start) (marked (goal.at.returns c).Start)
    (long (goal.at.returns c).Else-map_short) c.apply_auxiliary_view-given.ensures c.if-given-ne0.false
    (c.complete_rects.ensures
    ∙ ap (λ (b : Limits). painted (across_of a.size) (down_of a.size) (taken (in_blocks a.size b) a.rects.now) (turned_at a.map.now (across_of a.size)) a.map.now) c.auxiliary_limits.ensures
    ∙ map_completed a.size a.w a.rects.now a.map.now ((map_fit_exactly _ _).0 (long (goal.at.returns c).Else-map_short)) a.layout)
