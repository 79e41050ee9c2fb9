use lib.ListN.{take}
use Rattle.wire_write.proofs.Front.{Fronted}
use Rattle.wire_write.specs.Stream.{number_bytes}
use Rattle.wire_write.proofs.put.put_numbers.Given as goal

abbrev pub invariant-loop-k : goal.invariant-loop-k
invariant-loop-k l = Fronted (number_bytes (take l.k l.numbers)) l.initial.dst l.dst
