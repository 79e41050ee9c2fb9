use Prim.Native.Nat.{◌+◌, ◌*◌}
use lib.ListN.{get_or}
use Rattle.lent.proofs.SoFar.{SoFar}
use Rattle.from_rgba.proofs.rows.apart.Given as goal

abbrev pub invariant-loop-i : goal.invariant-loop-i
invariant-loop-i l = SoFar (λ k. get_or l.pixels (4 * k) 0) l.initial.r l.r l.i × SoFar (λ k. get_or l.pixels (4 * k + 1) 0) l.initial.g l.g l.i × SoFar (λ k. get_or l.pixels (4 * k + 2) 0) l.initial.b l.b l.i
