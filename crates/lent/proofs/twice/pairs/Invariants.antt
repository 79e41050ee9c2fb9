use Prim.Native.Nat.{◌*◌}
use Rattle.lent.proofs.SpreadAt.{Both}
use Rattle.lent.proofs.twice.pairs.Given as goal

abbrev pub invariant-loop-k : goal.invariant-loop-k
invariant-loop-k l = Both l.from l.initial.dst l.a l.b l.dst (2 * (8 * l.k))
