use Prim.Native.Nat.{◌+◌, ◌*◌, ◌%◌, ◌-◌}
use mathlib.Core.Path.{◌≡◌}
use lib.Dec.{ltb}
use lib.ListN.{length}
use Rattle.colour.specs.Colour.{reverse_of}
use Rattle.lent.specs.Paint.{painted}
use Rattle.lent.specs.Pixels.{bytes}
use Rattle.to_rgba_rows.specs.Rules.{view_pixel_at}
use Rattle.to_rgba_rows.proofs.view_rows.view_lines.Given as goal

abbrev pub invariant-loop-k : goal.invariant-loop-k
invariant-loop-k t =
    (t.k % 2 ≡ 0)
    × (length t.out ≡ length t.initial.out)
    × (t.out ≡ painted (4 * t.n) t.lines (λ l j. ltb j (4 * t.k)) (λ l. bytes (view_pixel_at reverse_of t.luma t.chroma t.y t.u t.v (t.row + l))) t.initial.out)

abbrev pub decreases-loop-k : goal.decreases-loop-k
decreases-loop-k t = t.n - t.k
