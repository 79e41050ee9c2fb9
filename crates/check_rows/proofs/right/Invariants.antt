use Prim.Native.Nat.{◌-◌, ◌≤◌}
use mathlib.Core.Path.{◌≡◌}
use lib.ListN.{length, get_or}
use Rattle.check_rows.specs.Rows.{Right}
use Rattle.check_rows.proofs.right.Given as goal

abbrev pub invariant-loop-at : goal.invariant-loop-at
invariant-loop-at g l = (l.n ≡ length l.row) × (l.at ≤ l.n) × Right l.row (λ c. get_or l.src c 0) l.at

abbrev pub decreases-loop-at : goal.decreases-loop-at
decreases-loop-at g l = l.n - l.at
