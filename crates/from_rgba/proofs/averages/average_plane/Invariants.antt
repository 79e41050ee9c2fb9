use Prim.Native.Nat.{◌%◌, ◌-◌, ◌≤◌}
use mathlib.Core.Path.{◌≡◌}
use lib.ListN.{length}
use Rattle.lent.specs.Paint.{painted, whole, up_to}
use Rattle.lent.specs.Samples.{sample}
use Rattle.from_rgba.specs.Averaged.{averaged}
use Rattle.from_rgba.proofs.averages.average_plane.Given as goal

abbrev pub invariant-loop-row : goal.invariant-loop-row
invariant-loop-row l = (l.row % 2 ≡ 0) × (l.row ≤ l.rows) × (length l.plane ≡ length l.initial.plane) × (l.plane ≡ painted l.stride l.rows (up_to whole l.row) (averaged (sample l.initial.plane l.stride)) l.initial.plane)

abbrev pub decreases-loop-row : goal.decreases-loop-row
decreases-loop-row l = l.rows - l.row
