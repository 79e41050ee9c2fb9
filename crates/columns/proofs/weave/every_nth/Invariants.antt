use Prim.Native.Nat.{◌+◌, ◌*◌}
use lib.ListN.{get_or}
use Rattle.lent.proofs.SoFar.{SoFar}
use Rattle.columns.proofs.weave.every_nth.Given as goal

abbrev pub invariant-loop-i : goal.invariant-loop-i
invariant-loop-i g l = SoFar (λ k. get_or l.src (g.row.STEP * k + l.first) 0) l.initial.dst l.dst l.i
