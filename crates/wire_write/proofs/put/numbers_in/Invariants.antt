use lib.ListN.{get_or}
use Rattle.lent.proofs.SoFar.{SoFar}
use Rattle.wire_write.proofs.put.numbers_in.Given as goal

abbrev pub invariant-loop-i : goal.invariant-loop-i
invariant-loop-i l = SoFar (λ k. get_or l.numbers k 0) l.initial.t l.t l.i
