-- `lent::copy` meets its contract. The invariant: the first i bytes are those of src. A turn makes the front longer by `front_more`, and so
-- does the last one, which starts at or before the front's end.
-- Assumes nothing.
use Prim.Native.Nat.{ℕ, ◌+◌, ◌-◌}
use native.Mathlib.Omega.{arith}
use mathlib.Core.Path.{refl}
use lib.ListN.{length}
use Rattle.lent.proofs.Copies.{front_more, front_all}
use Rattle.lent.proofs.copy.Goals as goal

pub returns-then-n-lt16 : goal.returns-then-n-lt16
returns-then-n-lt16 c = c.copy_short.ensures

pub loop-i-init : goal.loop-i-init
loop-i-init c = (c.requires, refl)

pub loop-i-preserved : goal.loop-i-preserved
loop-i-preserved c =
    let a = c.args in
    let i : ℕ = c.loop-i.i in
    front_more a.src.now c.loop-i.dst i i (i + 16) c.loop-i.invariant (omega arith) (omega arith) (omega arith) c.copy_16.ensures

pub returns : goal.returns
returns c =
    let a = c.args in
    let n : ℕ = length a.src.now in
    front_all a.src.now n
    (front_more a.src.now c.loop-i.dst c.loop-i.i (n - 16) n c.loop-i.invariant (omega arith) (omega arith) (omega arith) c.copy_16-2.ensures)
    (omega arith)
