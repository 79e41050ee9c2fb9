use Prim.Native.Nat.{◌-◌, ◌%◌, ◌≤◌}
use mathlib.Core.Path.{◌≡◌}
use Rattle.lent.specs.Samples.{sample}
use Rattle.lent.proofs.SoFar.{SoFar}
use Rattle.from_rgba.specs.Averaged.{averaged}
use Rattle.from_rgba.proofs.averages.average_pair.Given as goal

abbrev pub invariant-loop-k : goal.invariant-loop-k
invariant-loop-k l = (l.k ≤ l.stride) × (l.k % 2 ≡ 0) × SoFar (averaged (sample l.initial.pair l.stride) 0) l.initial.pair l.pair l.k

abbrev pub decreases-loop-k : goal.decreases-loop-k
decreases-loop-k l = l.stride - l.k
