use Prim.Native.Nat.{◌-◌, ◌≤◌}
use mathlib.Core.Path.{◌≡◌}
use Rattle.map.specs.Map.{stale_rows_of}
use Rattle.map.proofs.counts.stale_in.Given as goal

abbrev pub invariant-loop-r : goal.invariant-loop-r
invariant-loop-r l = (l.r ≤ l.h) × (l.count ≡ stale_rows_of l.wide l.left l.top l.n l.r l.map)

abbrev pub decreases-loop-r : goal.decreases-loop-r
decreases-loop-r l = l.h - l.r
