use lib.ListN.{take}
use Rattle.wire_write.proofs.Front.{Fronted}
use Rattle.wire_write.specs.Stream.{number_bytes}
use Rattle.wire_write.proofs.put.numbers_out.Given as goal

abbrev pub invariant-loop-i : goal.invariant-loop-i
invariant-loop-i l = Fronted (number_bytes (take l.i l.t)) l.initial.dst l.dst
