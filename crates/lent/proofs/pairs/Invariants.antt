use Prim.Native.Nat.{◌*◌, ◌/◌}
use lib.ListN.{get_or}
use Rattle.lent.proofs.SoFar.{SoFar}
use Rattle.lent.proofs.pairs.Given as goal

abbrev pub invariant-loop-i : goal.invariant-loop-i
invariant-loop-i l = SoFar (λ k. get_or l.from (k / 2) 0) l.initial.dst l.dst (2 * l.i)
