use Prim.Native.Nat.{◌+◌, ◌-◌, ◌*◌, ◌≤◌}
use mathlib.Core.Path.{◌≡◌}
use lib.ListN.{length, get_or}
use Rattle.check_rows.specs.Rows.{Right, step_of, first_of}
use Rattle.check_rows.proofs.taken_right.Given as goal

abbrev pub invariant-loop-at : goal.invariant-loop-at
invariant-loop-at g l = (l.by ≡ step_of l.taken) × (l.n ≡ length l.row) × (l.at ≤ l.n) × Right l.row (λ c. get_or l.src (step_of l.taken * c + first_of l.taken) 0) l.at

abbrev pub decreases-loop-at : goal.decreases-loop-at
decreases-loop-at g l = l.n - l.at
