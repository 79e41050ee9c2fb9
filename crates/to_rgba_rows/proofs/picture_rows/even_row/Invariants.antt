use Prim.Native.Nat.{ℕ, ◌+◌, ◌*◌, ◌-◌, ◌%◌, ◌≤◌}
use mathlib.Core.Path.{◌≡◌}
use mathlib.Core.List.{List}
use lib.ListN.{length}
use Rattle.lent.specs.Pixels.{done}
use Rattle.to_rgba_rows.specs.Rules.{pixel_at, row_from}
use Rattle.to_rgba_rows.proofs.Filtered.{Counted}
use Rattle.to_rgba_rows.proofs.picture_rows.even_row.Given as goal

abbrev pub invariant-loop-col : goal.invariant-loop-col
invariant-loop-col l =
    (l.col ≤ l.n) × ((l.left + l.col) % 2 ≡ 0) × (length l.out ≡ 4 * l.n)
    × (l.row % 2 ≡ 0 → (xs : List ℕ) → length xs ≡ 4 * l.n → l.initial.out ≡ done (row_from l.left (pixel_at l.stride l.y l.u l.v l.row)) (l.left % 2) xs
    → l.out ≡ done (row_from l.left (pixel_at l.stride l.y l.u l.v l.row)) l.col xs)
    × Counted l.stride l.row l.left l.u l.col l.filtered_u × Counted l.stride l.row l.left l.v l.col l.filtered_v

abbrev pub decreases-loop-col : goal.decreases-loop-col
decreases-loop-col l = l.n - l.col
