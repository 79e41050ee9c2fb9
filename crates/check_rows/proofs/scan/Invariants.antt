use Prim.Native.Nat.{◌+◌, ◌*◌}
use lib.ListN.{get_or}
use Rattle.check_rows.specs.Rows.{Right}
use Rattle.check_rows.proofs.scan.Given as goal

abbrev pub invariant-loop-i : goal.invariant-loop-i
invariant-loop-i l = Right l.row (λ c. get_or l.src (l.by * c + l.from) 0) l.i
