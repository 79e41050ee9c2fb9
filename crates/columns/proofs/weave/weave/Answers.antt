-- `columns::weave::weave` meets its contract. The invariant: the first i pairs are painted.
-- Assumes nothing.
use Prim.Native.Nat.{ℕ, ◌+◌, ◌*◌, ◌/◌}
use native.Mathlib.Omega.{arith}
use mathlib.Core.Path.{◌≡◌, refl, sym, ap, ◌∙◌}
use lib.ListN.{get_or}
use Rattle.lent.proofs.SoFar.{so_far_none}
use Rattle.lent.proofs.ByPart.{so_far_two}
use Rattle.columns.proofs.Turns.{woven-even, woven-odd}
use Rattle.columns.proofs.weave.weave.Goals as goal

pub loop-i-init : goal.loop-i-init
loop-i-init c = so_far_none _ _

pub loop-i-preserved : goal.loop-i-preserved
loop-i-preserved c =
    let i : ℕ = c.loop-i.i in
    let evens = c.args.evens.now in
    let odds = c.args.odds.now in
    let half : i ≡ 2 * i / 2 = omega arith in
    let half' : i ≡ (2 * i + 1) / 2 = omega arith in
    so_far_two _ _ i c.loop-i.invariant (omega arith)
    (ap (λ (k : ℕ). get_or evens k 0) half ∙ sym (woven-even evens odds (2 * i) (omega arith)))
    (ap (λ (k : ℕ). get_or odds k 0) half' ∙ sym (woven-odd evens odds (2 * i + 1) (omega arith))) refl
