use mathlib.Core.Path.{◌≡◌}
use lib.ListN.{length}
use Rattle.to_rgba_rows.proofs.Shading.{SharesFrom}
use Rattle.to_rgba_rows.proofs.shares.Given as goal

abbrev pub invariant-loop-i : goal.invariant-loop-i
invariant-loop-i l = ((length l.r ≡ 64) × (length l.g ≡ 64) × (length l.b ≡ 64)) × SharesFrom l.u l.v l.c l.i l.r l.g l.b
