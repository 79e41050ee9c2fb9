use Prim.Native.Nat.{◌*◌, ◌≤◌}
use mathlib.Core.Path.{◌≡◌}
use lib.ListN.{get_or}
use Rattle.lent.specs.Counts.{total}
use Rattle.to_rgba_rows.proofs.picture_rows.counted.Given as goal

abbrev pub invariant-loop-mark : goal.invariant-loop-mark
invariant-loop-mark l = (l.sum ≤ 257 * l.mark-index) × (l.sum ≡ total l.mark-index (λ j. get_or l.marks j 0))
