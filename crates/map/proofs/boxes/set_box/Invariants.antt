use Rattle.map.proofs.BoxRows.{BoxRows}
use Rattle.map.proofs.boxes.set_box.Given as goal

abbrev pub invariant-loop-i : goal.invariant-loop-i
invariant-loop-i l = BoxRows l.wide l.area (λ r c. l.value) l.initial.map l.map l.i
