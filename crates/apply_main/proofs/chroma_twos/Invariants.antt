use Prim.Native.Nat.{◌*◌, ◌%◌, ◌-◌, ◌<◌}
use mathlib.Core.Path.{◌≡◌}
use Rattle.picture.specs.Sizes.{stride_of, rows_of}
use Rattle.apply_main.specs.Main.{halved}
use Rattle.apply_main.proofs.RectRows.{BoxRows}
use Rattle.apply_main.proofs.chroma_twos.Given as goal

abbrev pub invariant-loop-row : goal.invariant-loop-row
invariant-loop-row l =
    (l.row < 18446744073709551616) × (l.row % 2 ≡ 0)
    × BoxRows (stride_of l.size) (rows_of l.size) l.area (2 * l.from.height) (halved l.samples l.from.stride) l.initial.plane l.plane l.row

abbrev pub decreases-loop-row : goal.decreases-loop-row
decreases-loop-row l = l.area.bottom - l.row
