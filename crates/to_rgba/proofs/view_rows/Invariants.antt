use Prim.Native.Nat.{◌%◌, ◌-◌, ◌≤◌}
use mathlib.Core.Path.{◌≡◌}
use lib.ListN.{length}
use Rattle.colour.specs.Limited.{reverse_by}
use Rattle.to_rgba.specs.Pictured.{pictured_to}
use Rattle.to_rgba_rows.specs.Rules.{view_pixel_at}
use Rattle.to_rgba.proofs.view_rows.Given as goal

abbrev pub invariant-loop-r : goal.invariant-loop-r
invariant-loop-r l =
    let f = l.frame in
    let w = f.sizes in
    (l.r ≤ l.h) × (l.r % 2 ≡ 0) × (length l.out ≡ length l.initial.out)
    × (l.out ≡ pictured_to l.r w.width w.height (view_pixel_at (reverse_by l.matrix) w.luma_stride w.chroma_stride f.y.now f.u.now f.v.now) l.initial.out)

abbrev pub decreases-loop-r : goal.decreases-loop-r
decreases-loop-r l = l.h - l.r
