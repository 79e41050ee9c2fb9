-- `lent::spread` meets its contract: the pairs, and an odd last place, which is one store more.
-- Assumes nothing.
use Prim.Native.Nat.{ℕ, ◌+◌, ◌*◌, ◌/◌}
use native.Mathlib.Omega.{arith}
use mathlib.Core.Path.{◌≡◌, refl, ap, ◌∙◌}
use lib.ListN.{length, get_or}
use borrow.Author.Tests.{lt-ltb}
use Rattle.lent.proofs.Paint.{paint_next, paint_ext}
use Rattle.lent.proofs.spread.Goals as goal

pub returns-then-end-dst : goal.returns-then-end-dst
returns-then-end-dst c = c.many_pairs.ensures ∙ paint_ext _ _ _ _ _ (λ k h. lt-ltb k (2 * (length c.args.dst.now / 2)) (omega arith)) (λ k h e. refl)

pub returns : goal.returns
returns c =
    let a = c.args in
    let p : ℕ = length a.dst.now / 2 in
    let half : p ≡ 2 * p / 2 = omega arith in
    rw c.many_pairs.ensures (paint_next _ _ (2 * p) _ (omega arith) (ap (λ (k : ℕ). get_or a.from.now k 0) half))
    ∙ paint_ext _ _ _ _ _ (λ k h. lt-ltb k (2 * p + 1) (omega arith)) (λ k h e. refl)
