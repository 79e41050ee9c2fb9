use Prim.Native.Nat.{◌*◌}
use mathlib.Core.Path.{◌≡◌}
use lib.ListN.{length}
use Rattle.colour.specs.Limited.{limited_reverse_of}
use Rattle.lent.specs.Pixels.{done}
use Rattle.to_rgba_rows.specs.Rules.{paired_from}
use Rattle.to_rgba_rows.proofs.limited_rows.limited_row.Given as goal

abbrev pub invariant-loop-i : goal.invariant-loop-i
invariant-loop-i l = (length l.out ≡ length l.initial.out) × (l.out ≡ done (paired_from limited_reverse_of l.y l.at l.u l.v l.c) (2 * l.i) l.initial.out)
