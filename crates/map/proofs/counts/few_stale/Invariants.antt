use Prim.Native.Nat.{◌≤◌}
use mathlib.Core.Path.{◌≡◌}
use lib.ListN.{get_or}
use Rattle.lent.specs.Counts.{count_of}
use Rattle.map.specs.Map.{stale}
use Rattle.map.proofs.counts.few_stale.Given as goal

abbrev pub invariant-loop-b : goal.invariant-loop-b
invariant-loop-b l = (l.n ≤ l.b-index) × (l.n ≡ count_of l.b-index (λ j. stale (get_or l.part j 0)))
