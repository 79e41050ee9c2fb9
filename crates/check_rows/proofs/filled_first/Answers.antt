-- `check_rows::filled_first` meets its contract: the parts of 8 that are right, and what is left byte by byte.
-- Assumes nothing.
use native.Mathlib.Omega.{arith}
use mathlib.Core.Path.{refl}
use lib.ListN.{length}
use Rattle.check_rows.proofs.Rows.{wrong_none, wrong_in, wrong_rest}
use Rattle.check_rows.proofs.filled_first.Goals as goal

pub returns-then-at-n : goal.returns-then-at-n
returns-then-at-n c =
    let a = c.args in
    wrong_none a.row.now (λ k. a.fill) (length a.row.now) refl (λ k h. c.filled_right_8-at.ensures.1 k (omega arith))

pub overflow_add-result : goal.overflow_add-result
overflow_add-result c =
    omega (arith, wrong_in c.args.row.now _ c.filled_right_8-at.result c.filled_right_8-at.ensures.0 c.filled_scan.ensures)

pub returns : goal.returns
returns c =
    let a = c.args in
    wrong_rest a.row.now (λ k. a.fill) (λ k. a.fill) c.filled_right_8-at.result (length a.row.now) c.filled_right_8-at.ensures.0 (omega arith) (λ j h. refl)
    c.filled_right_8-at.ensures.1 c.filled_scan.ensures refl
