use Rattle.from_rgba.specs.Rows.{colour_at}
use Rattle.lent.proofs.SoFar.{SoFar}
use Rattle.from_rgba.proofs.rows.forward_tail.Given as goal

abbrev pub invariant-loop-i : goal.invariant-loop-i
invariant-loop-i l = SoFar (λ k. (colour_at l.matrix l.pixels k).y) l.initial.y l.y l.i × SoFar (λ k. (colour_at l.matrix l.pixels k).u) l.initial.u l.u l.i × SoFar (λ k. (colour_at l.matrix l.pixels k).v) l.initial.v l.v l.i
