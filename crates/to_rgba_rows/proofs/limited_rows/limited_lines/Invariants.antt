use Prim.Native.Nat.{◌+◌, ◌*◌}
use mathlib.Core.Path.{◌≡◌}
use lib.ListN.{length}
use Rattle.colour.specs.Limited.{limited_reverse_of}
use Rattle.lent.specs.Paint.{painted, whole, up_to}
use Rattle.lent.specs.Pixels.{bytes}
use Rattle.to_rgba_rows.specs.Rules.{view_pixel_at}
use Rattle.to_rgba_rows.proofs.limited_rows.limited_lines.Given as goal

abbrev pub invariant-loop-l : goal.invariant-loop-l
invariant-loop-l t =
    (length t.out ≡ length t.initial.out)
    × (t.out ≡ painted (4 * t.n) t.lines (up_to whole t.l) (λ q. bytes (view_pixel_at limited_reverse_of t.luma t.chroma t.y t.u t.v (t.row + q))) t.initial.out)
