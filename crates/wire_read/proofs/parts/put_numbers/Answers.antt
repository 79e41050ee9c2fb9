-- `wire_read::parts::put_numbers` meets its contract. The invariant: the numbers below i are written, the others as they were.
-- Assumes nothing.
use Prim.Native.Nat.{ℕ, ◌+◌, ◌*◌}
use native.Mathlib.Omega.{arith}
use mathlib.Core.Path.{◌≡◌, ap, ◌∙◌}
use lib.Dec.{ltb}
use borrow.Author.Tests.{le-ltb}
use Rattle.lent.specs.Paint.{paint}
use Rattle.lent.proofs.Paint.{paint_none, paint_next}
use Rattle.wire_fields.specs.Fields.{u16_at}
use Rattle.wire_read.proofs.parts.put_numbers.Goals as goal

pub loop-i-init : goal.loop-i-init
loop-i-init c = paint_none _ _ _ (λ k h. le-ltb k 0 (omega arith))

pub loop-i-preserved : goal.loop-i-preserved
loop-i-preserved c = rw c.loop-i.invariant (paint_next _ _ c.loop-i.i _ (omega arith) c.u16_at.ensures)

pub returns : goal.returns
returns c =
    let a = c.args in
    let all : c.loop-i.i ≡ a.n = omega arith in
    c.loop-i.invariant ∙ ap (λ (m : ℕ). paint (λ k. ltb k m) (λ k. u16_at a.s.now (a.at + 2 * k)) a.out.now) all
