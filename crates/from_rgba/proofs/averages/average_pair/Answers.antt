-- `from_rgba::averages::average_pair` meets its contract. The invariant: the upper row's columns below k hold their averages, and all else is as
-- it was, so that what a part reads is as before the call.
-- Assumes nothing.
use Prim.Native.Nat.{◌+◌, ◌-◌}
use native.Mathlib.Omega.{arith}
use mathlib.Core.Path.{◌≡◌}
use Rattle.lent.proofs.SoFar.{so_far_none}
use Rattle.from_rgba.proofs.Blocks.{columns_more, columns_all}
use Rattle.from_rgba.proofs.averages.average_pair.Goals as goal

pub loop-k-init : goal.loop-k-init
loop-k-init c = (omega arith, omega arith, so_far_none _ _)

pub loop-k-preserved : goal.loop-k-preserved
loop-k-preserved c =
    let a = c.args in
    let whole : c.min-n.result ≡ 128 = omega arith in
    let next = columns_more a.stride a.pair.now c.requires.stride_in_bounds c.requires.stride_value c.loop-k.k c.min-n.result (a.stride + c.loop-k.k - c.loop-k.k)
    (omega arith) (omega arith) c.loop-k.invariant.2 c.average_part.ensures in
    (omega arith, omega arith, rw whole at next)

pub returns-2 : goal.returns-2
returns-2 c =
    let a = c.args in
    let fits = c.requires.stride_in_bounds in
    let even = c.requires.stride_value in
    let k = c.loop-k.k in
    let n = c.min-n.result in
    columns_all a.stride a.pair.now fits even (k + n)
    (columns_more a.stride a.pair.now fits even k n (a.stride + k - k) (omega arith) (omega arith) c.loop-k.invariant.2 c.average_part.ensures) (omega arith)

pub returns : goal.returns
returns c = columns_all c.args.stride c.args.pair.now c.requires.stride_in_bounds c.requires.stride_value c.loop-k.k c.loop-k.invariant.2 (omega arith)
