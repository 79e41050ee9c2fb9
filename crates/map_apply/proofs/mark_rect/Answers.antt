-- `map_apply::mark_rect` meets its contract: the box is the rectangle's, and where it has no column nothing is taken.
-- Assumes nothing.
use mathlib.Core.Path.{◌∙◌}
use Rattle.map_apply.proofs.Boxes.{box_fits, box_painted, box_none}
use Rattle.map_apply.proofs.mark_rect.Goals as goal

pub set_box-requires : goal.set_box-requires
set_box-requires c =
    let a = c.args in
    box_fits a.size a.limits a.rect c.block_box-any.ensures _ c.requires c.if-any.true

pub returns-then-any : goal.returns-then-any
returns-then-any c =
    let a = c.args in
    c.set_box.ensures ∙ box_painted a.size a.limits a.rect c.block_box-any.ensures (λ i j. 1) a.map.now

pub returns-else-any : goal.returns-else-any
returns-else-any c =
    let a = c.args in
    box_none a.size a.limits a.rect c.block_box-any.ensures (λ i j. 1) a.map.now c.if-any.false
