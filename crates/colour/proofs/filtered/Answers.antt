-- The two answers are the two cases of the rule: a change below 30 is not made (`kept`), any other is (`replaced`). Assumes nothing.
use native.Mathlib.Omega.{arith}
use Rattle.colour.proofs.Filtering.{kept, replaced}
use Rattle.colour.proofs.filtered.Goals as goal

pub returns-then-abs_diff-lt30 : goal.returns-then-abs_diff-lt30
returns-then-abs_diff-lt30 c =
    let a = c.args in
    kept a.a a.s c.fit-t.result (omega arith) (omega arith)

pub returns : goal.returns
returns c =
    let a = c.args in
    replaced a.a a.s c.fit-t.result (omega arith) (omega arith)
