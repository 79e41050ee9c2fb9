use Prim.Native.Nat.{◌*◌, ◌/◌}
use lib.ListN.{get_or}
use Rattle.lent.proofs.SoFar.{SoFar}
use Rattle.lent.proofs.many_pairs.Given as goal

abbrev pub invariant-loop-k : goal.invariant-loop-k
invariant-loop-k l = SoFar (λ j. get_or l.from (j / 2) 0) l.initial.dst l.dst (2 * (8 * l.k))
