use mathlib.Core.Path.{◌≡◌}
use Prim.Native.Nat.{◌%◌, ◌+◌, ◌*◌, ◌-◌, ◌<◌}
use Rattle.lent.proofs.SoFar.{SoFar}
use Rattle.columns.specs.Turns.{new_odds}
use Rattle.columns.proofs.both.put_turns.Given as goal

abbrev pub invariant-loop-i : goal.invariant-loop-i
invariant-loop-i l = (l.i % 8 ≡ 0) × (l.i < l.most + 8) × SoFar (new_odds l.us l.initial.u) l.initial.u l.u (2 * l.i) × SoFar (new_odds l.vs l.initial.v) l.initial.v l.v (2 * l.i)

abbrev pub decreases-loop-i : goal.decreases-loop-i
decreases-loop-i l = l.most - l.i
