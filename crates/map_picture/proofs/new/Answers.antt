-- `map_picture::new` meets its contract: a short map is refused with nothing run; else the call that has no map is run, its refusal is passed on
-- and leaves the map, and where it is done the map is long enough, and set.
-- Assumes nothing.
use Prim.Native.Nat.{ℕ}
use native.Mathlib.Omega.{arith}
use mathlib.Core.Path.{◌≡◌, sym, ◌∙◌}
use mathlib.Core.Bool.{false}
use mathlib.Core.List.{[], ◌∷◌}
use lib.ListN.{length}
use Rattle.lent.specs.Outcome.{Outcome, answer_of}
use Rattle.picture.specs.New.{new_buffers_of, fresh_buffers_of}
use Rattle.map.specs.Map.{map_short}
use Rattle.map.proofs.Joined.{renumbered, joined_passed, joined_set, joined_refused}
use Rattle.map.proofs.Sizes.{map_fit_exactly}
use Rattle.map_picture.specs.Made.{map_new_number_of}
use Rattle.map_picture.proofs.Numbers.{map_new_short, map_new_planes}
use Rattle.map_picture.proofs.new.Goals.{After-new-fresh, Else-map_short, Start}
use Rattle.map_picture.proofs.new.Goals as goal

-- the call's number
abbrev number : Start → ℕ
number s =
    let a = s.args in
    map_new_number_of a.size (length a.y.now) (length a.u.now) (length a.v.now) (length a.map.now)

pub returns-then-map_short : goal.returns-then-map_short
returns-then-map_short c =
    let a = c.args in
    rw c.refused.ensures (joined_refused (number (goal.at.returns-then-map_short c).Start) a.y.now a.u.now a.v.now a.map.now _ _ _ _
    (map_new_short a.size _ _ _ (length a.map.now) (sym c.map_short.ensures ∙ c.if-map_short.true)) (λ e. omega arith))

long : (k : Else-map_short) → map_short k.args.size (length k.args.map.now) ≡ false
long k = sym k.map_short.ensures ∙ k.if-map_short.false

-- that call, by the number of this one
run : (n : After-new-fresh) → let a = n.args in
    Outcome (answer_of ((let inl : (ℕ) = let a = n.args in
    map_new_number_of a.size (length a.y.now) (length a.u.now) (length a.v.now) (length a.map.now) in inl)) 0) (fresh_buffers_of ((let inl : (ℕ) = let a = n.args in
    map_new_number_of a.size (length a.y.now) (length a.u.now) (length a.v.now) (length a.map.now) in inl)) a.size a.y.now a.u.now a.v.now)
    n.new-fresh.result (n.new-fresh.new.y ∷ n.new-fresh.new.u ∷ n.new-fresh.new.v ∷ [])
unfolding new_buffers_of
run n =
    let a = n.args in
    renumbered 0 (λ k. fresh_buffers_of k a.size a.y.now a.u.now a.v.now)
    (map_new_planes a.size _ _ _ (length a.map.now) ((let inl : (map_short n.args.size (length n.args.map.now) ≡ false) = sym n.map_short.ensures ∙ n.if-map_short.false in inl))) n.new-fresh.ensures

pub returns-then-fresh-ne0 : goal.returns-then-fresh-ne0
returns-then-fresh-ne0 c = joined_passed (number (goal.at.returns-then-fresh-ne0 c).Start) 0 c.args.map.now _ (run (goal.at.returns-then-fresh-ne0 c).After-new-fresh) c.if-fresh-ne0.true

pub set_all-requires : goal.set_all-requires
set_all-requires c = (map_fit_exactly _ _).0 (long (goal.at.set_all-requires c).Else-map_short)

pub returns : goal.returns
returns c = joined_set (number (goal.at.returns c).Start) 0 c.args.map.now _ (run (goal.at.returns c).After-new-fresh) c.if-fresh-ne0.false c.set_all.ensures
