-- `check_rows::filled_scan` meets its contract. The invariant: the columns that were passed are `fill`.
-- Assumes nothing.
use native.Mathlib.Omega.{arith}
use mathlib.Core.Path.{refl}
use lib.ListN.{length}
use Rattle.check_rows.proofs.Rows.{right_more, wrong_at_lem, wrong_none}
use Rattle.check_rows.proofs.filled_scan.Goals as goal

pub returns-then-b-fill : goal.returns-then-b-fill
returns-then-b-fill c =
    let a = c.args in
    wrong_at_lem a.row.now (λ k. a.fill) c.loop-i.i (omega arith) c.loop-i.invariant c.if-b-fill.true

pub loop-i-preserved : goal.loop-i-preserved
loop-i-preserved c = right_more c.args.row.now (λ k. c.args.fill) c.loop-i.i c.loop-i.invariant c.if-b-fill.false

pub returns : goal.returns
returns c =
    let a = c.args in
    wrong_none a.row.now (λ k. a.fill) (length a.row.now) refl (λ k h. c.loop-i.invariant k (omega arith))
