use Prim.Native.Nat.{◌-◌}
use mathlib.Core.Path.{◌≡◌}
use lib.ListN.{length}
use Rattle.lent.specs.Paint.{painted, up_to}
use Rattle.lent.specs.Samples.{sample}
use Rattle.lent.specs.Sizes.{round_up}
use Rattle.from_rgba.specs.Edges.{past_column}
use Rattle.from_rgba.proofs.edges.fill_columns.Given as goal

abbrev pub invariant-loop-row : goal.invariant-loop-row
invariant-loop-row l = (length l.plane ≡ length l.initial.plane) × (l.plane ≡ painted l.stride (round_up 16 l.height) (up_to (past_column l.width l.height) l.row) (λ r c. sample l.initial.plane l.stride r (l.width - 1)) l.initial.plane)
