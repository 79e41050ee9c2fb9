use Prim.Native.Nat.{◌-◌, ◌%◌, ◌≤◌}
use mathlib.Core.Path.{◌≡◌}
use Rattle.lent.specs.Pixels.{done}
use Rattle.to_rgba_rows.specs.Rules.{pixel_at, row_from}
use Rattle.to_rgba_rows.proofs.picture_rows.odd_row.Given as goal

abbrev pub invariant-loop-k : goal.invariant-loop-k
invariant-loop-k l = (l.k ≤ l.n) × (l.row % 2 ≡ 1 → l.out ≡ done (row_from l.left (pixel_at l.stride l.y l.u l.v l.row)) l.k l.initial.out)

abbrev pub decreases-loop-k : goal.decreases-loop-k
decreases-loop-k l = l.n - l.k
