use Prim.Native.Nat.{◌*◌}
use Rattle.lent.proofs.SoFar.{SoFar}
use Rattle.from_rgba.specs.Rows.{colour_at}
use Rattle.from_rgba.proofs.rows.forward_row.Given as goal

abbrev pub invariant-loop-turn : goal.invariant-loop-turn
invariant-loop-turn l =
    SoFar (λ j. (colour_at l.matrix l.pixels j).y) l.initial.y l.y (l.turn * 16)
    × SoFar (λ j. (colour_at l.matrix l.pixels j).u) l.initial.u l.u (l.turn * 16)
    × SoFar (λ j. (colour_at l.matrix l.pixels j).v) l.initial.v l.v (l.turn * 16)
