-- `map::boxes::turn_box` meets its contract. The invariant: the map is painted by what the box takes in the rows below `row`, from the map
-- as it was before the loop; row `row` is still as it was then.
-- Assumes nothing.
use Prim.Native.Nat.{ℕ, ◌<◌, ◌≤◌}
use native.Mathlib.Omega.{arith}
use mathlib.Core.Path.{refl, ap, ◌∙◌}
use Rattle.lent.specs.Paint.{painted}
use Rattle.rects.specs.Rects.{in_area}
use Rattle.map.specs.Map.{down_of, turned_at}
use Rattle.map.proofs.BoxRows.{map_room, box_room, box_rows_none, box_rows_more, box_rows_all, turned_from}
use Rattle.map.proofs.boxes.turn_box.Goals.{In-loop-row}
use Rattle.map.proofs.boxes.turn_box.Goals as goal

pub loop-row-init : goal.loop-row-init
loop-row-init c = box_rows_none _ _ _ _

pub loop-row-preserved : goal.loop-row-preserved
loop-row-preserved c =
    let row : ℕ = c.loop-row.row in
    let lt : row < c.args.area.bottom = omega arith in
    let room = box_room c.args.size _ c.args.area _ c.across-wide.ensures.0 c.requires in
    let inside : c.args.area.right ≤ c.across-wide.result = omega arith in
    box_rows_more _ _ _ _ row _ _ _ c.loop-row.invariant lt room c.requires.ordered inside refl refl
    (λ j h. turned_from _ _ _ row _ _ j c.loop-row.invariant lt room inside refl refl h) c.turn.ensures refl

pub returns : goal.returns
returns c =
    let is = c.across-wide.ensures.0 in
    box_rows_all _ _ _ _ (down_of c.args.size) c.loop-row.row c.loop-row.invariant (omega arith) c.requires.rows_inside
    (map_room c.args.size _ c.args.area _ is c.requires)
    ∙ ap (λ (w : ℕ). painted w (down_of c.args.size) (in_area c.args.area) (turned_at c.args.map.now w) c.args.map.now) is
