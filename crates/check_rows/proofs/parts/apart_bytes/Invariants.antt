use mathlib.Core.Path.{◌≡◌}
use mathlib.Core.Logic.{◌↔◌}
use lib.ListN.{get_or}
use Rattle.std.specs.Int.{to_le_bytes, w16}
use Rattle.check_rows.specs.Rows.{Right}
use Rattle.check_rows.proofs.parts.apart_bytes.Given as goal

abbrev pub invariant-loop-i : goal.invariant-loop-i
invariant-loop-i g l = (l.bits ≡ 0) ↔ Right l.row (λ c. get_or (to_le_bytes w16 (get_or l.pairs c 0)) g.row.WHICH 0) l.i
