use mathlib.Core.Path.{◌≡◌}
use lib.ListN.{length}
use Rattle.lent.specs.Pixels.{done}
use Rattle.to_rgba_rows.specs.Rules.{shades_from}
use Rattle.to_rgba_rows.proofs.shades.Given as goal

abbrev pub invariant-loop-i : goal.invariant-loop-i
invariant-loop-i l = (length l.out ≡ length l.initial.out) × (l.out ≡ done (shades_from (λ k. k) l.y l.at l.r l.g l.b) l.i l.initial.out)
