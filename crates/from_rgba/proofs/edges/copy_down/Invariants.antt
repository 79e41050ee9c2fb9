use Prim.Native.Nat.{◌+◌, ◌-◌}
use mathlib.Core.Path.{◌≡◌}
use lib.ListN.{length, get_or}
use Rattle.lent.specs.Paint.{paint, within}
use Rattle.from_rgba.proofs.edges.copy_down.Given as goal

abbrev pub invariant-loop-i : goal.invariant-loop-i
invariant-loop-i l = (length l.plane ≡ length l.initial.plane) × (l.plane ≡ paint (within l.to (l.to + l.i)) (λ k. get_or l.initial.plane (l.from + (k - l.to)) 0) l.initial.plane)
