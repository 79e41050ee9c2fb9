use Prim.Native.Nat.{ℕ, ◌*◌}
use mathlib.Core.Path.{◌≡◌}
use mathlib.Core.List.{List}
use lib.ListN.{length}
use Rattle.picture.specs.Sizes.{stride_of, rows_of}
use Rattle.apply_main.specs.Main.{halved}
use Rattle.apply_main.proofs.RectRows.{BoxRows}
use Rattle.apply_main.proofs.chroma_rows.Given as goal

abbrev pub invariant-loop-row : goal.invariant-loop-row
invariant-loop-row l =
    let Rows = BoxRows (stride_of l.size) (rows_of l.size) l.area (2 * l.from.height) (halved l.samples l.from.stride) in
    (length l.plane ≡ length l.initial.plane) × ((xs : List ℕ) → Rows xs l.initial.plane l.next → Rows xs l.plane l.row)
