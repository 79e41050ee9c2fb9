-- `to_rgba_rows::picture_rows::even_head` meets its contract: an odd first column is a part of one pixel that no filter touches (`plain_more`), and
-- before an even one nothing is done. Assumes nothing.
use borrow.Author.Rules.{rules}
use Prim.Native.Nat.{◌+◌, ◌*◌, ◌%◌}
use native.Mathlib.Omega.{arith}
use lib.Seq.{length-take-le}
use Rattle.lent.proofs.Pixels.{done_none, done_at}
use Rattle.to_rgba_rows.specs.Rules.{pixel_at, row_from}
use Rattle.to_rgba_rows.proofs.Rules.{odd_col_off}
use Rattle.to_rgba_rows.proofs.PictureParts.{plain_more}
use Rattle.to_rgba_rows.proofs.picture_rows.even_head.Goals as goal

pub part-requires : goal.part-requires
part-requires c =
    let a = c.args in
    let exact = length-take-le 4 a.out.now (omega arith) in
    record { exact = exact; few = search rules; y_has = omega arith; u_has = omega arith; v_has = omega arith }

pub returns-then-left-eq1 : goal.returns-then-left-eq1
returns-then-left-eq1 c =
    let a = c.args in
    done_at _ _ 1 (a.left % 2)
    (plain_more a.stride a.row a.left a.y.now a.u.now a.v.now a.out.now 0 1 (a.row * a.stride + a.left)
    (omega arith) (omega arith) (done_none _ _) (λ i h. odd_col_off a.row (a.left + (0 + i)) (omega arith)) c.part.ensures)
    (omega arith)

pub returns-else-left-eq1 : goal.returns-else-left-eq1
returns-else-left-eq1 c =
    let a = c.args in
    done_at _ _ 0 (a.left % 2) (done_none (row_from a.left (pixel_at a.stride a.y.now a.u.now a.v.now a.row)) a.out.now) (omega arith)
