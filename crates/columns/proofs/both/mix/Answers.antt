-- `columns::both::mix` meets its contract. The invariant: the first 2 i places of t are written. A word has the byte of `old` at its even place and
-- that of `from` at its odd one.
-- Assumes nothing.
use Prim.Native.Nat.{ℕ}
use native.Mathlib.Omega.{arith}
use mathlib.Core.Path.{sym, ◌∙◌}
use Rattle.lent.proofs.SoFar.{so_far_none}
use Rattle.lent.proofs.ByPart.{so_far_two}
use Rattle.columns.specs.Turns.{new_odds}
use Rattle.columns.proofs.NewOdds.{new_even, new_odd}
use Rattle.columns.proofs.both.mix.Goals as goal

pub loop-i-init : goal.loop-i-init
loop-i-init c = so_far_none _ _

pub loop-i-preserved : goal.loop-i-preserved
loop-i-preserved c =
    let a = c.args in
    let i : ℕ = c.loop-i.i in
    so_far_two (new_odds a.from.now a.old.now) a.t.now i c.loop-i.invariant (omega arith)
    (c.mixed-pair.ensures.0 ∙ c.two.ensures.0 ∙ sym (new_even a.from.now a.old.now i))
    (c.mixed-pair.ensures.1 ∙ sym (new_odd a.from.now a.old.now i)) c.put_two.ensures
