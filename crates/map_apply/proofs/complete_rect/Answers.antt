-- `map_apply::complete_rect` meets its contract: the box is the rectangle's, and where it has no column nothing is taken.
-- Assumes nothing.
use mathlib.Core.Path.{◌∙◌}
use Rattle.map.specs.Map.{across_of, turned_at}
use Rattle.map_apply.proofs.Boxes.{box_fits, box_painted, box_none}
use Rattle.map_apply.proofs.complete_rect.Goals as goal

pub turn_box-requires : goal.turn_box-requires
turn_box-requires c =
    let a = c.args in
    box_fits a.size a.limits a.rect c.block_box-whole.ensures _ c.requires c.if-whole.true

pub returns-then-whole : goal.returns-then-whole
returns-then-whole c =
    let a = c.args in
    c.turn_box.ensures ∙ box_painted a.size a.limits a.rect c.block_box-whole.ensures (turned_at a.map.now (across_of a.size)) a.map.now

pub returns-else-whole : goal.returns-else-whole
returns-else-whole c =
    let a = c.args in
    box_none a.size a.limits a.rect c.block_box-whole.ensures (turned_at a.map.now (across_of a.size)) a.map.now c.if-whole.false
