-- `map::boxes::set_box` meets its contract. The invariant: the map is painted by what the box takes in the rows below i.
-- Assumes nothing.
use Prim.Native.Nat.{ℕ, ◌<◌, ◌≤◌}
use native.Mathlib.Omega.{arith}
use mathlib.Core.Path.{refl, ap, ◌∙◌}
use Rattle.lent.specs.Paint.{painted}
use Rattle.rects.specs.Rects.{in_area}
use Rattle.map.specs.Map.{down_of}
use Rattle.map.proofs.BoxRows.{map_room, box_room, box_rows_none, box_rows_more, box_rows_all}
use Rattle.map.proofs.boxes.set_box.Goals.{In-loop-i}
use Rattle.map.proofs.boxes.set_box.Goals as goal

pub loop-i-init : goal.loop-i-init
loop-i-init c = box_rows_none _ _ _ _

pub loop-i-preserved : goal.loop-i-preserved
loop-i-preserved c =
    let row : ℕ = c.loop-i.i in
    let lt : row < c.args.area.bottom = omega arith in
    let room = box_room c.args.size _ c.args.area _ c.across-wide.ensures.0 c.requires in
    let inside : c.args.area.right ≤ c.across-wide.result = omega arith in
    box_rows_more _ _ _ _ row _ _ _ c.loop-i.invariant lt room c.requires.ordered inside refl refl
    (λ j h. refl) c.set_part.ensures refl

pub returns : goal.returns
returns c =
    let is = c.across-wide.ensures.0 in
    box_rows_all _ _ _ _ (down_of c.args.size) c.loop-i.i c.loop-i.invariant (omega arith) c.requires.rows_inside
    (map_room c.args.size _ c.args.area _ is c.requires)
    ∙ ap (λ (w : ℕ). painted w (down_of c.args.size) (in_area c.args.area) (λ r k. c.args.value) c.args.map.now) is
