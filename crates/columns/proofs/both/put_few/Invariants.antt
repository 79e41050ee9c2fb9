use Prim.Native.Nat.{◌*◌, ◌/◌}
use lib.ListN.{get_or}
use Rattle.columns.specs.Turns.{odd}
use Rattle.columns.proofs.Columns.{Below}
use Rattle.columns.proofs.both.put_few.Given as goal

abbrev pub invariant-loop-i : goal.invariant-loop-i
invariant-loop-i l = Below odd (λ k. get_or l.us (k / 2) 0) l.initial.u l.u (2 * l.i) × Below odd (λ k. get_or l.vs (k / 2) 0) l.initial.v l.v (2 * l.i)
