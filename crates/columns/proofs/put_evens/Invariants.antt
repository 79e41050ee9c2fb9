use Prim.Native.Nat.{◌+◌, ◌-◌, ◌/◌, ◌%◌}
use mathlib.Core.Path.{◌≡◌}
use lib.ListN.{length}
use Rattle.columns.specs.Turns.{even, woven}
use Rattle.columns.proofs.Columns.{Below}
use Rattle.columns.proofs.put_evens.Given as goal

abbrev pub invariant-loop-col : goal.invariant-loop-col
invariant-loop-col l = (l.col % 4 ≡ 0) × Below even (λ k. woven l.u l.v (l.lead + k / 2)) l.initial.dst l.dst l.col

abbrev pub decreases-loop-col : goal.decreases-loop-col
decreases-loop-col l = length l.initial.dst - l.col
