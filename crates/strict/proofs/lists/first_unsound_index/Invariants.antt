use Prim.Native.Nat.{◌/◌}
use mathlib.Core.Path.{◌≡◌}
use lib.ListN.{length}
use Rattle.lent.proofs.First.{Passed}
use Rattle.strict.specs.Sound.{unsound_at}
use Rattle.strict.proofs.lists.first_unsound_index.Given as goal

abbrev pub invariant-loop-i : goal.invariant-loop-i
invariant-loop-i l = (l.count ≡ length l.rects / 4) × Passed (unsound_at l.size l.rects) l.i
