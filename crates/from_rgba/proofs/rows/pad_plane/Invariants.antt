use mathlib.Core.Path.{◌≡◌}
use mathlib.Core.Bool.{not}
use lib.ListN.{length}
use Rattle.lent.specs.Paint.{painted, up_to}
use Rattle.from_rgba.specs.Rows.{inside}
use Rattle.from_rgba.proofs.rows.pad_plane.Given as goal

abbrev pub invariant-loop-row : goal.invariant-loop-row
invariant-loop-row l = (length l.plane ≡ length l.initial.plane) × (l.plane ≡ painted l.stride l.rows (up_to (λ r c. not (inside l.width l.height r c)) l.row) (λ r c. l.value) l.initial.plane)
