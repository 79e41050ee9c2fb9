use Prim.Native.Nat.{◌+◌, ◌-◌, ◌*◌}
use Rattle.lent.specs.Samples.{sample}
use Rattle.lent.proofs.SoFar.{SoFar}
use Rattle.from_rgba.specs.Averaged.{averaged}
use Rattle.from_rgba.proofs.averages.averages_of.Given as goal

abbrev pub invariant-loop-i : goal.invariant-loop-i
invariant-loop-i l = SoFar (λ j. averaged (sample l.rows (l.below - l.at)) 0 (l.at + j)) l.initial.dst l.dst (2 * l.i)
