use Prim.Native.Nat.{◌*◌}
use Rattle.lent.proofs.First.{Passed}
use Rattle.check_pair.specs.Verdict.{part_of, held_of, cell_wrong}
use Rattle.check_pair.specs.Rows.{planes_in}
use Rattle.check_pair.proofs.planes.plane_first.Given as goal

abbrev pub invariant-loop-line : goal.invariant-loop-line
invariant-loop-line l = Passed (cell_wrong (held_of l.sent l.layout l.from.stride (planes_in l.from) (part_of l.name)) l.p l.plane) (l.line * l.p.width)
