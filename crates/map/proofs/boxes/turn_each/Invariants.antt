use lib.ListN.{get_or}
use Rattle.lent.proofs.SoFar.{SoFar}
use Rattle.map.specs.Map.{turned_of}
use Rattle.map.proofs.boxes.turn_each.Given as goal

abbrev pub invariant-loop-b : goal.invariant-loop-b
invariant-loop-b l = SoFar (λ j. turned_of (get_or l.initial.dst j 0)) l.initial.dst l.dst l.b-index
