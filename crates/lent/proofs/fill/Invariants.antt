use Rattle.lent.proofs.SoFar.{SoFar}
use Rattle.lent.proofs.fill.Given as goal

abbrev pub invariant-loop-b : goal.invariant-loop-b
invariant-loop-b l = SoFar (λ k. l.value) l.initial.dst l.dst l.b-index
