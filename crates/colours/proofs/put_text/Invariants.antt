use Prim.Native.Nat.{◌*◌}
use Rattle.colours.proofs.Text.{SoFar}
use Rattle.colours.proofs.put_text.Given as goal

abbrev pub invariant-loop-k : goal.invariant-loop-k
invariant-loop-k l = SoFar l.rgb l.out l.at (3 * l.k)
