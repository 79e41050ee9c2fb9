use Prim.Native.Nat.{◌-◌, ◌≤◌}
use mathlib.Core.Path.{◌≡◌}
use lib.ListN.{length}
use Rattle.lent.specs.Paint.{painted, up_to}
use Rattle.lent.specs.Samples.{sample}
use Rattle.from_rgba.specs.Edges.{past_row}
use Rattle.from_rgba.proofs.edges.fill_rows.Given as goal

abbrev pub invariant-loop-row : goal.invariant-loop-row
invariant-loop-row l = (l.height ≤ l.row) × (length l.plane ≡ length l.initial.plane) × (l.plane ≡ painted l.stride l.rows (up_to (past_row l.height) l.row) (λ r c. sample l.initial.plane l.stride (l.height - 1) c) l.initial.plane)
