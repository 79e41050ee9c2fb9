use Rattle.lent.proofs.SoFar.{SoFar}
use Rattle.map.proofs.boxes.set_front.Given as goal

abbrev pub invariant-loop-i : goal.invariant-loop-i
invariant-loop-i l = SoFar (λ k. l.value) l.initial.dst l.dst l.i
