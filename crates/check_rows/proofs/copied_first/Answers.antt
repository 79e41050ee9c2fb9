-- `check_rows::copied_first` meets its contract: the parts of 64 that are right, then those of 8, and what is left byte by byte.
-- Assumes nothing.
use Prim.Native.Nat.{ℕ, ◌+◌, ◌*◌}
use native.Mathlib.Omega.{arith}
use mathlib.Core.Path.{◌≡◌, refl, ap, ◌∙◌}
use lib.ListN.{length, get_or}
use Rattle.lent.proofs.ByPart.{part_long}
use Rattle.check_rows.specs.Rows.{Right}
use Rattle.check_rows.proofs.Rows.{part_of, part_at, wrong_none, wrong_in, wrong_rest, copied_part}
use Rattle.check_rows.proofs.copied_first.Goals.{After-right}
use Rattle.check_rows.proofs.copied_first.Goals as goal

-- the columns below `at` are right
right_there : (c : After-right)
    → let a = c.args in
    Right a.row.now (λ k. get_or a.src.now k 0) (c.right-most.result + c.right.result)
right_there c =
    let a = c.args in
    let n : ℕ = length a.row.now in
    copied_part a.row.now a.src.now c.right-most.result n c.right-most.ensures.0 (omega arith) c.right-most.ensures.1 c.right.result
    (omega (arith, c.right.ensures.0, part_long a.row.now c.right-most.result n c.right-most.ensures.0 (omega arith)))
    c.right.ensures.1

pub returns-then-at-n : goal.returns-then-at-n
returns-then-at-n c =
    let a = c.args in
    wrong_none a.row.now (λ k. get_or a.src.now k 0) (length a.row.now) refl (λ k h. right_there (goal.at.returns-then-at-n c).After-right k (omega arith))

pub overflow_add-result : goal.overflow_add-result
overflow_add-result c = omega (arith, wrong_in c.args.row.now _ (c.right-most.result + c.right.result) (omega arith) c.scan.ensures)

pub returns : goal.returns
returns c =
    let a = c.args in
    let at : ℕ = c.right-most.result + c.right.result in
    let n : ℕ = length a.row.now in
    wrong_rest a.row.now (λ k. get_or a.src.now k 0) (λ k. get_or (part_of a.src.now at n) (1 * k + 0) 0) at n (omega arith) (omega arith)
    (λ j h. let is : 1 * j + 0 ≡ j = omega arith in ap (λ (k : ℕ). get_or (part_of a.src.now at n) k 0) is ∙ part_at a.src.now at n j h)
    (right_there (goal.at.returns c).After-right) c.scan.ensures refl
