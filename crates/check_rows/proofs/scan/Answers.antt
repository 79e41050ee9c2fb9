-- `check_rows::scan` meets its contract. The invariant: the columns that were passed are right.
-- Assumes nothing.
use Prim.Native.Nat.{◌+◌, ◌*◌}
use native.Mathlib.Omega.{arith}
use mathlib.Core.Path.{refl}
use lib.ListN.{length, get_or}
use Rattle.check_rows.proofs.Rows.{right_more, wrong_at_lem, wrong_none}
use Rattle.check_rows.proofs.scan.Goals as goal

pub returns-then-b-src : goal.returns-then-b-src
returns-then-b-src c =
    let a = c.args in
    wrong_at_lem a.row.now (λ k. get_or a.src.now (a.by * k + a.from) 0) c.loop-i.i (omega arith) c.loop-i.invariant c.if-b-src.true

pub loop-i-preserved : goal.loop-i-preserved
loop-i-preserved c =
    let a = c.args in
    right_more a.row.now (λ k. get_or a.src.now (a.by * k + a.from) 0) c.loop-i.i c.loop-i.invariant c.if-b-src.false

pub returns : goal.returns
returns c =
    let a = c.args in
    wrong_none a.row.now (λ k. get_or a.src.now (a.by * k + a.from) 0) (length a.row.now) refl (λ k h. c.loop-i.invariant k (omega arith))
