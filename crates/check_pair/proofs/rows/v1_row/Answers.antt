-- `check_pair::rows::v1_row` meets its contract: luma has its own function, chroma is the odd columns of an even row.
-- Assumes nothing.
use native.Mathlib.Omega.{arith}
use mathlib.Core.Path.{subst}
use lib.ListN.{length}
use Rattle.split_views.specs.Views.{auxiliary_sample}
use Rattle.check_pair.specs.declared.Name.{Name}
use Rattle.check_pair.specs.Rows.{LineFits}
use Rattle.check_pair.proofs.Lines.{line_fits}
use Rattle.check_pair.proofs.rows.v1_row.Goals as goal

pub taken_row-requires : goal.taken_row-requires
taken_row-requires c =
    let a = c.args in
    let f = subst (λ (n : Name). LineFits n (length a.row.now) (length a.from.u.now) a.from.stride a.line) c.in-UPlane.is c.requires.u in
    line_fits f 2 _ _ (omega (arith, f.whole)) (omega (arith, f.room.enough)) (omega arith)

pub taken_row-requires-in-VPlane : goal.taken_row-requires-in-VPlane
taken_row-requires-in-VPlane c =
    let a = c.args in
    let f = subst (λ (n : Name). LineFits n (length a.row.now) (length a.from.v.now) a.from.stride a.line) c.in-VPlane.is c.requires.v in
    line_fits f 2 _ _ (omega (arith, f.whole)) (omega (arith, f.room.enough)) (omega arith)

pub returns-in-UPlane : goal.returns-in-UPlane
unfolding auxiliary_sample
returns-in-UPlane c = rw c.in-UPlane.is c.taken_row.ensures

pub returns-in-VPlane : goal.returns-in-VPlane
unfolding auxiliary_sample
returns-in-VPlane c = rw c.in-VPlane.is c.taken_row-in-VPlane.ensures
