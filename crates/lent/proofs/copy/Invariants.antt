use Prim.Native.Nat.{◌-◌}
use Rattle.lent.proofs.Copies.{Front}
use Rattle.lent.proofs.copy.Given as goal

abbrev pub invariant-loop-i : goal.invariant-loop-i
invariant-loop-i l = Front l.src l.dst l.i

abbrev pub decreases-loop-i : goal.decreases-loop-i
decreases-loop-i l = l.last - l.i
