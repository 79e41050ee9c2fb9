use Prim.Native.Nat.{◌+◌, ◌*◌}
use mathlib.Core.Path.{◌≡◌}
use lib.Dec.{ltb}
use Rattle.lent.specs.Paint.{paint}
use Rattle.wire_fields.specs.Fields.{u16_at}
use Rattle.wire_read.proofs.parts.put_numbers.Given as goal

abbrev pub invariant-loop-i : goal.invariant-loop-i
invariant-loop-i l = (l.out ≡ paint (λ k. ltb k l.i) (λ k. u16_at l.s (l.at + 2 * k)) l.initial.out)
