use Prim.Native.Nat.{◌*◌}
use Rattle.lent.proofs.SoFar.{SoFar}
use Rattle.columns.specs.Turns.{new_odds}
use Rattle.columns.proofs.both.mix.Given as goal

abbrev pub invariant-loop-i : goal.invariant-loop-i
invariant-loop-i l = SoFar (new_odds l.from l.old) l.initial.t l.t (2 * l.i)
