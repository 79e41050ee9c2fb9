-- `check_rows::taken_first` meets its contract: the parts of 64 that are right, and what is left.
-- Assumes nothing.
use Prim.Native.Nat.{◌+◌, ◌*◌}
use native.Mathlib.Omega.{arith}
use mathlib.Core.Path.{refl}
use lib.ListN.{length, get_or}
use Rattle.check_rows.specs.Rows.{step_of, first_of}
use Rattle.check_rows.proofs.Rows.{wrong_none, wrong_in, taken_rest}
use Rattle.check_rows.proofs.Samples.{first_below}
use Rattle.check_rows.proofs.taken_first.Goals as goal

pub returns-then-at-n : goal.returns-then-at-n
returns-then-at-n c =
    let a = c.args in
    wrong_none a.row.now (λ k. get_or a.src.now (step_of a.taken * k + first_of a.taken) 0) (length a.row.now) refl (λ k h. c.taken_right-at.ensures.1 k (omega arith))

pub overflow_add-result : goal.overflow_add-result
overflow_add-result c = omega (arith, wrong_in c.args.row.now _ c.taken_right-at.result c.taken_right-at.ensures.0 c.taken_rest.ensures)

pub returns : goal.returns
returns c =
    let a = c.args in
    taken_rest a.row.now a.src.now c.taken_right-at.result (length a.row.now) c.taken_right-at.ensures.0 (omega arith) (step_of a.taken) (first_of a.taken) (first_below a.taken) c.taken_right-at.ensures.1 refl (rw c.step-by.ensures at c.taken_rest.ensures)
