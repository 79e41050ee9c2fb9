use Rattle.map.specs.Map.{turned_at}
use Rattle.map.proofs.BoxRows.{BoxRows}
use Rattle.map.proofs.boxes.turn_box.Given as goal

abbrev pub invariant-loop-row : goal.invariant-loop-row
invariant-loop-row l = BoxRows l.wide l.area (turned_at l.initial.map l.wide) l.initial.map l.map l.row
