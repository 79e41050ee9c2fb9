-- `columns::put_odds` meets its contract. The invariant: the odd places below 2 i are painted. The word that is read has the even byte as it
-- is, so that storing it changes nothing: `odds_next`.
-- Assumes nothing.
use Prim.Native.Nat.{ℕ, ◌+◌, ◌*◌, ◌/◌}
use native.Mathlib.Omega.{arith}
use mathlib.Core.Path.{◌≡◌, ap, ◌∙◌}
use lib.ListN.{get_or}
use Rattle.columns.specs.Turns.{odd}
use Rattle.columns.proofs.Columns.{below_none, below_all, odds_next}
use Rattle.columns.proofs.put_odds.Goals as goal

pub loop-i-init : goal.loop-i-init
loop-i-init c = below_none _ _ _

pub loop-i-preserved : goal.loop-i-preserved
loop-i-preserved c =
    let a = c.args in
    let half : c.loop-i.i ≡ (2 * c.loop-i.i + 1) / 2 = omega arith in
    odds_next _ a.dst.now c.loop-i.i c.loop-i.invariant (omega arith) c.put_two.ensures
    (c.mixed-pair.ensures.0 ∙ c.two.ensures.0) (c.mixed-pair.ensures.1 ∙ ap (λ (k : ℕ). get_or a.from.now k 0) half)

pub returns : goal.returns
returns c = below_all odd _ _ (2 * c.loop-i.i) c.loop-i.invariant (omega arith)
