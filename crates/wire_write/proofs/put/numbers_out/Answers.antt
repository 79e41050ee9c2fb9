-- `wire_write::put::numbers_out` meets its contract. The invariant: the numbers below i are written, the rest is as it was.
-- Assumes nothing.
use Prim.Native.Nat.{ℕ, ◌+◌, ◌*◌, ◌-◌}
use native.Mathlib.Omega.{arith}
use mathlib.Core.Path.{◌≡◌, ap, ◌∙◌}
use lib.ListN.{length, take}
use lib.Seq.{length-take-le}
use Rattle.wire_write.proofs.Front.{fronted, fronted_none, all_written}
use Rattle.wire_write.specs.Stream.{number_bytes}
use Rattle.wire_write.proofs.Stream.{numbers_more, number_at, number_bytes_long}
use Rattle.wire_write.proofs.put.numbers_out.Goals as goal

pub loop-i-init : goal.loop-i-init
loop-i-init c = fronted_none _

pub loop-i-preserved : goal.loop-i-preserved
loop-i-preserved c =
    let a = c.args in
    let i = c.loop-i.i in
    let written = c.put_u16.ensures ∙ number_at a.t.now i (omega arith) in
    numbers_more a.t.now a.dst.now i 1 (2 * i + 2 - 2 * i) (omega arith) (omega arith) (omega arith) c.loop-i.invariant written

pub returns : goal.returns
returns c =
    let a = c.args in
    let done : c.loop-i.i ≡ a.n = omega arith in
    let many : length (take a.n a.t.now) ≡ a.n = length-take-le a.n a.t.now (omega arith) in
    let long = number_bytes_long (take a.n a.t.now) in
    c.loop-i.invariant.is ∙ ap (λ (k : ℕ). fronted (number_bytes (take k a.t.now)) a.dst.now) done ∙ all_written (number_bytes (take a.n a.t.now)) a.dst.now (omega arith)
