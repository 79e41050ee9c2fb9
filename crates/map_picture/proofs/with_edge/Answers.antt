-- `map_picture::with_edge` meets its contract: a short map is refused with nothing run, with 2 before 1; else the call that has no map is run, its refusal is passed on
-- and leaves the map, and where it is done the map is long enough, and set.
-- Assumes nothing.
use Prim.Native.Nat.{ℕ}
use mathlib.Core.Path.{◌≡◌, sym, ◌∙◌}
use mathlib.Core.Bool.{false}
use mathlib.Core.List.{[], ◌∷◌}
use lib.ListN.{length}
use Rattle.lent.specs.Outcome.{Outcome, answer_of}
use Rattle.lent.proofs.Answered.{never_0}
use Rattle.from_rgba.specs.FromRgba.{from_buffers_of, made_buffers_of}
use Rattle.map.specs.Map.{map_short}
use Rattle.map.proofs.Joined.{renumbered, joined_passed, joined_set, joined_refused}
use Rattle.map.proofs.Sizes.{map_fit_exactly}
use Rattle.map_picture.specs.Made.{map_from_number_of}
use Rattle.map_picture.proofs.Numbers.{map_from_short, map_from_planes}
use Rattle.map_picture.proofs.with_edge.Goals.{After-with_edge-made, Else-map_short, Start}
use Rattle.map_picture.proofs.with_edge.Goals as goal

-- the call's number
abbrev number : Start → ℕ
number s =
    let a = s.args in
    map_from_number_of a.size (length a.rgba.now) (length a.y.now) (length a.u.now) (length a.v.now) (length a.map.now)

pub returns-then-map_short : goal.returns-then-map_short
returns-then-map_short c =
    let a = c.args in
    rw c.refused.ensures (joined_refused (number (goal.at.returns-then-map_short c).Start) a.y.now a.u.now a.v.now a.map.now _ _ _ _
    (c.from_short.ensures ∙ map_from_short a.size (length a.rgba.now) _ _ _ (length a.map.now) (sym c.map_short.ensures ∙ c.if-map_short.true))
    (never_0 _))

long : (k : Else-map_short) → map_short k.args.size (length k.args.map.now) ≡ false
long k = sym k.map_short.ensures ∙ k.if-map_short.false

-- that call, by the number of this one
run : (n : After-with_edge-made) → let a = n.args in
    Outcome (answer_of ((let inl : (ℕ) = let a = n.args in
    map_from_number_of a.size (length a.rgba.now) (length a.y.now) (length a.u.now) (length a.v.now) (length a.map.now) in inl)) 0) (made_buffers_of ((let inl : (ℕ) = let a = n.args in
    map_from_number_of a.size (length a.rgba.now) (length a.y.now) (length a.u.now) (length a.v.now) (length a.map.now) in inl)) a.matrix a.edge a.rgba.now a.size a.y.now a.u.now a.v.now)
    n.with_edge-made.result (n.with_edge-made.new.y ∷ n.with_edge-made.new.u ∷ n.with_edge-made.new.v ∷ [])
unfolding from_buffers_of
run n =
    let a = n.args in
    renumbered 0 (λ k. made_buffers_of k a.matrix a.edge a.rgba.now a.size a.y.now a.u.now a.v.now)
    (map_from_planes a.size (length a.rgba.now) _ _ _ (length a.map.now) ((let inl : (map_short n.args.size (length n.args.map.now) ≡ false) = sym n.map_short.ensures ∙ n.if-map_short.false in inl))) n.with_edge-made.ensures

pub returns-then-made-ne0 : goal.returns-then-made-ne0
returns-then-made-ne0 c = joined_passed (number (goal.at.returns-then-made-ne0 c).Start) 0 c.args.map.now _ (run (goal.at.returns-then-made-ne0 c).After-with_edge-made) c.if-made-ne0.true

pub set_all-requires : goal.set_all-requires
set_all-requires c = (map_fit_exactly _ _).0 (long (goal.at.set_all-requires c).Else-map_short)

pub returns : goal.returns
returns c = joined_set (number (goal.at.returns c).Start) 0 c.args.map.now _ (run (goal.at.returns c).After-with_edge-made) c.if-made-ne0.false c.set_all.ensures
