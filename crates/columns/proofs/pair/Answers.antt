-- `columns::pair` meets its contract: no place, or two, which are two stores more.
-- Assumes nothing.
use Prim.Native.Nat.{◌≤◌}
use native.Mathlib.Omega.{arith}
use mathlib.Core.Path.{◌≡◌, refl, sym, ◌∙◌}
use lib.ListN.{length}
use borrow.Author.Tests.{eqb-true, eqb-false}
use Rattle.lent.specs.Paint.{every}
use Rattle.lent.proofs.Paint.{paint_is}
use Rattle.lent.proofs.SoFar.{so_far_none, so_far_more, so_far_all}
use Rattle.columns.specs.Turns.{odd, woven}
use Rattle.columns.proofs.pair.Goals as goal

pub returns-then-is_empty : goal.returns-then-is_empty
returns-then-is_empty c =
    let none : length c.args.dst.now ≡ 0 = eqb-true _ 0 (sym c.is_empty.ensures ∙ c.if-is_empty.true) in
    paint_is every _ _ _ refl (λ k h. absurd (omega arith))

pub returns : goal.returns
unfolding odd woven
returns c =
    let two : 2 ≤ length c.args.dst.now = omega (arith, eqb-false (length c.args.dst.now) 0 (sym c.is_empty.ensures ∙ c.if-is_empty.false)) in
    so_far_all _ _ 2 (so_far_more _ _ 1 (so_far_more _ _ 0 (so_far_none _ _) (omega arith) refl) (omega arith) refl) (omega arith)
