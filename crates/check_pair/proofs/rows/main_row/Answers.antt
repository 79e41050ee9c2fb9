-- `check_pair::rows::main_row` meets its contract: luma is a row of Y, chroma every second sample of an even row.
-- Assumes nothing.
use native.Mathlib.Omega.{arith}
use mathlib.Core.Path.{subst}
use lib.ListN.{length}
use Rattle.check_pair.specs.declared.Name.{Name}
use Rattle.check_pair.specs.Rows.{LineFits}
use Rattle.check_pair.proofs.Lines.{line_fits}
use Rattle.check_pair.proofs.rows.main_row.Goals as goal

pub copied_row-requires : goal.copied_row-requires
copied_row-requires c =
    let a = c.args in
    let f = subst (λ (n : Name). LineFits n (length a.row.now) (length a.from.y.now) a.from.stride a.line) c.in-YPlane.is c.requires.y in
    line_fits f 1 _ _ (omega arith) (omega (arith, f.room.enough)) (omega arith)

pub taken_row-requires : goal.taken_row-requires
taken_row-requires c =
    let a = c.args in
    let f = subst (λ (n : Name). LineFits n (length a.row.now) (length a.from.u.now) a.from.stride a.line) c.in-UPlane.is c.requires.u in
    line_fits f 2 _ _ (omega (arith, f.whole)) (omega (arith, f.room.enough)) (omega arith)

pub taken_row-requires-in-VPlane : goal.taken_row-requires-in-VPlane
taken_row-requires-in-VPlane c =
    let a = c.args in
    let f = subst (λ (n : Name). LineFits n (length a.row.now) (length a.from.v.now) a.from.stride a.line) c.in-VPlane.is c.requires.v in
    line_fits f 2 _ _ (omega (arith, f.whole)) (omega (arith, f.room.enough)) (omega arith)
