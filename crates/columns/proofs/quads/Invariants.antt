use Prim.Native.Nat.{◌*◌}
use Rattle.lent.proofs.SoFar.{SoFar}
use Rattle.columns.proofs.Turns.{by_fours}
use Rattle.columns.proofs.quads.Given as goal

abbrev pub invariant-loop-i : goal.invariant-loop-i
invariant-loop-i l = SoFar (by_fours l.odds l.u l.v) l.initial.dst l.dst (4 * l.i)
