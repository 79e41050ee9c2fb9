-- `to_rgba_rows::picture_rows::counted` meets its contract. The invariant: `sum` is that of the first i marks, and low enough that one more fits.
-- Assumes nothing.
use Prim.Native.Nat.{ℕ, ◌+◌, ◌/◌, ◌%◌}
use native.Mathlib.Omega.{arith}
use mathlib.Core.Path.{◌≡◌, ap, ◌∙◌}
use lib.ListN.{get_or}
use Rattle.lent.proofs.Counts.{total_none, total-one}
use Rattle.to_rgba_rows.proofs.picture_rows.counted.Goals as goal

pub loop-mark-init : goal.loop-mark-init
loop-mark-init c = (omega arith, total_none _)

pub overflow_add-sum : goal.overflow_add-sum
overflow_add-sum c = omega (arith, c.requires.low c.loop-mark.mark-index (omega arith))

pub loop-mark-preserved : goal.loop-mark-preserved
loop-mark-preserved c =
    let i = c.loop-mark.mark-index in (
      omega (arith, c.requires.low i (omega arith)),
      ap (λ (x : ℕ). x + get_or c.args.marks.now i 0) c.loop-mark.invariant.1 ∙ total-one i _,
    )

pub returns : goal.returns
returns c =
    let all : c.loop-mark.mark-index ≡ 32 = omega arith in
    let is = rw all at c.loop-mark.invariant.1 in
    (ap (λ (x : ℕ). x % 256) is, ap (λ (x : ℕ). x / 256) is)
