-- `columns::quads` meets its contract. The invariant: the first i fours are painted; a word of four bytes is four places more, `fours_next`.
-- Assumes nothing.
use native.Mathlib.Omega.{arith}
use mathlib.Core.Path.{◌∙◌}
use Rattle.lent.proofs.SoFar.{so_far_none}
use Rattle.columns.proofs.Turns.{fours_next}
use Rattle.columns.proofs.quads.Goals as goal

pub loop-i-init : goal.loop-i-init
loop-i-init c = so_far_none _ _

pub loop-i-preserved : goal.loop-i-preserved
loop-i-preserved c =
    let a = c.args in
    fours_next a.odds.now a.u.now a.v.now a.dst.now c.loop-i.i c.loop-i.invariant (omega arith) c.put_four.ensures
    c.quad.ensures.0 (c.quad.ensures.1 ∙ c.two-w.ensures.0) c.quad.ensures.2 (c.quad.ensures.3 ∙ c.two-w.ensures.1)
