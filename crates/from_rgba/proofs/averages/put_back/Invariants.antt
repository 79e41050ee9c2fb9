use Prim.Native.Nat.{◌+◌, ◌-◌}
use mathlib.Core.Path.{◌≡◌}
use lib.ListN.{length, get_or}
use Rattle.lent.specs.Paint.{paint, within}
use Rattle.from_rgba.proofs.averages.put_back.Given as goal

abbrev pub invariant-loop-i : goal.invariant-loop-i
invariant-loop-i l = (length l.dst ≡ length l.initial.dst) × (l.dst ≡ paint (within l.at (l.at + l.i)) (λ k. get_or l.from (k - l.at) 0) l.initial.dst)
