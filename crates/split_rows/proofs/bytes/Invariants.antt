use Rattle.std.specs.Prelude.{get_or}
use Rattle.std.specs.Int.{to_le_bytes, w16}
use Rattle.lent.proofs.SoFar.{SoFar}
use Rattle.split_rows.proofs.bytes.Given as goal

abbrev pub invariant-loop-i : goal.invariant-loop-i
invariant-loop-i g l = SoFar (λ k. get_or (to_le_bytes w16 (get_or l.pairs k 0)) g.row.WHICH 0) l.initial.dst l.dst l.i
