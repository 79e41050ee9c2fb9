use Rattle.lent.proofs.SoFar.{SoFar}
use Rattle.split_rows.specs.Pairs.{pair_of}
use Rattle.split_rows.proofs.pair.Given as goal

abbrev pub invariant-loop-i : goal.invariant-loop-i
invariant-loop-i l = SoFar (pair_of l.src) l.initial.pairs l.pairs l.i
