use mathlib.Core.Path.{◌≡◌}
use mathlib.Core.Logic.{◌↔◌}
use lib.ListN.{get_or}
use Rattle.check_rows.specs.Rows.{Right}
use Rattle.check_rows.proofs.parts.apart.Given as goal

abbrev pub invariant-loop-i : goal.invariant-loop-i
invariant-loop-i l = (l.bits ≡ 0) ↔ Right l.row (λ c. get_or l.src c 0) l.i
