use Rattle.from_rgba.specs.Rows.{colour_apart}
use Rattle.lent.proofs.SoFar.{SoFar}
use Rattle.from_rgba.proofs.rows.forward_16.Given as goal

abbrev pub invariant-loop-i : goal.invariant-loop-i
invariant-loop-i l = SoFar (λ k. (colour_apart l.matrix l.r l.g l.b k).y) l.initial.y l.y l.i × SoFar (λ k. (colour_apart l.matrix l.r l.g l.b k).u) l.initial.u l.u l.i × SoFar (λ k. (colour_apart l.matrix l.r l.g l.b k).v) l.initial.v l.v l.i
