use Prim.Native.Nat.{◌-◌}
use lib.ListN.{length}
use Rattle.lent.proofs.Copies.{Front}
use Rattle.lent.proofs.long.copy.Given as goal

abbrev pub invariant-loop-k : goal.invariant-loop-k
invariant-loop-k l = Front l.src l.dst l.k

abbrev pub decreases-loop-k : goal.decreases-loop-k
decreases-loop-k l = length l.src - l.k
