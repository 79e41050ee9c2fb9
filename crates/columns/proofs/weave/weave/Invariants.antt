use Prim.Native.Nat.{◌*◌}
use Rattle.lent.proofs.SoFar.{SoFar}
use Rattle.columns.specs.Turns.{woven}
use Rattle.columns.proofs.weave.weave.Given as goal

abbrev pub invariant-loop-i : goal.invariant-loop-i
invariant-loop-i l = SoFar (woven l.evens l.odds) l.initial.dst l.dst (2 * l.i)
