use Prim.Native.Nat.{◌*◌}
use Rattle.lent.proofs.SoFar.{SoFar}
use Rattle.to_rgba_rows.specs.Rules.{smooth_from, mark_of}
use Rattle.to_rgba_rows.proofs.picture_rows.smoothed.Given as goal

abbrev pub invariant-loop-i : goal.invariant-loop-i
invariant-loop-i l = SoFar (smooth_from l.u l.at l.below) l.initial.p l.p (2 * l.i) × SoFar (smooth_from l.v l.at l.below) l.initial.q l.q (2 * l.i) × SoFar (mark_of l.u l.v l.at l.below) l.initial.marks l.marks l.i
