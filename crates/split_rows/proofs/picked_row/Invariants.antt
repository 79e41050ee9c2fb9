use Prim.Native.Nat.{◌+◌, ◌-◌, ◌*◌}
use Rattle.lent.specs.Samples.{sample}
use Rattle.lent.proofs.SoFar.{SoFar}
use Rattle.split_rows.proofs.picked_row.Given as goal

abbrev pub invariant-loop-at : goal.invariant-loop-at
invariant-loop-at g l = SoFar (λ k. sample l.plane l.stride l.row (g.row.STEP * k + l.first)) l.initial.out l.out l.at

abbrev pub decreases-loop-at : goal.decreases-loop-at
decreases-loop-at g l = l.n - l.at
