use Rattle.check_rows.specs.Rows.{Right}
use Rattle.check_rows.proofs.filled_scan.Given as goal

abbrev pub invariant-loop-i : goal.invariant-loop-i
invariant-loop-i l = Right l.row (λ c. l.fill) l.i
