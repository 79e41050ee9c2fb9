-- `lent::pairs` meets its contract. The invariant: the first 2 i bytes are painted, two of each byte of `from`: both bytes of 257 * b are b.
-- Assumes nothing.
use Prim.Native.Nat.{ℕ, ◌+◌, ◌*◌, ◌/◌, ◌%◌, ◌<◌}
use native.Mathlib.Omega.{arith}
use mathlib.Core.Path.{◌≡◌, ap, ◌∙◌}
use lib.ListN.{get_or}
use Rattle.lent.proofs.SoFar.{so_far_none}
use Rattle.lent.proofs.ByPart.{so_far_two}
use Rattle.lent.proofs.pairs.Goals as goal

pub loop-i-init : goal.loop-i-init
loop-i-init c = so_far_none _ _

pub loop-i-preserved : goal.loop-i-preserved
loop-i-preserved c =
    let from = c.args.from.now in
    let i : ℕ = c.loop-i.i in
    let small : get_or from i 0 < 256 = omega (arith, c.type_inv.from i) in
    let low : 257 * c.from.result % 256 ≡ get_or from i 0 = omega (arith, c.from.ensures) in
    let high : 257 * c.from.result / 256 ≡ get_or from i 0 = omega (arith, c.from.ensures) in
    let even : i ≡ 2 * i / 2 = omega arith in
    let odd : i ≡ (2 * i + 1) / 2 = omega arith in
    let byte = λ (k : ℕ). get_or from k 0 in
    so_far_two _ _ i c.loop-i.invariant (omega arith) (low ∙ ap byte even) (high ∙ ap byte odd) c.put_two.ensures
