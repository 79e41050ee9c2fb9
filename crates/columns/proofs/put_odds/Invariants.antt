use Prim.Native.Nat.{◌*◌, ◌/◌}
use lib.ListN.{get_or}
use Rattle.columns.specs.Turns.{odd}
use Rattle.columns.proofs.Columns.{Below}
use Rattle.columns.proofs.put_odds.Given as goal

abbrev pub invariant-loop-i : goal.invariant-loop-i
invariant-loop-i l = Below odd (λ k. get_or l.from (k / 2) 0) l.initial.dst l.dst (2 * l.i)
