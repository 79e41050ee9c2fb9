use mathlib.Core.Path.{◌≡◌}
use lib.ListN.{length}
use Rattle.to_rgba.specs.Pictured.{pictured_to, shifted}
use Rattle.to_rgba.specs.Picture.{filtered_rows_of}
use Rattle.to_rgba_rows.specs.Rules.{pixel_at}
use Rattle.to_rgba.proofs.put_rows.Given as goal

abbrev pub invariant-loop-r : goal.invariant-loop-r
invariant-loop-r l =
    (length l.out ≡ length l.initial.out) × (l.out ≡ pictured_to l.r l.n l.h (shifted l.top l.left (pixel_at l.stride l.y l.u l.v)) l.initial.out)
    × (l.filtered_u ≡ filtered_rows_of l.stride l.left l.top l.n l.r l.u) × (l.filtered_v ≡ filtered_rows_of l.stride l.left l.top l.n l.r l.v)
