-- `apply_main::chroma_twos` meets its contract. The invariant: the plane is painted by what the area takes in the rows below `row`, which is even and
-- fits the machine word, so that row + 1 fits it too.
-- Assumes nothing.
use native.Mathlib.Omega.{arith}
use Rattle.apply_main.proofs.RectRows.{box_rows_none, box_rows_two}
use Rattle.apply_main.proofs.chroma_twos.Goals as goal

pub returns-then-wide-lt16 : goal.returns-then-wide-lt16
returns-then-wide-lt16 c =
    let none = box_rows_none _ _ _ _ _ _ in record {
      lower_bound = none.0;
      plane_after = none.2;
    }

pub returns-then-wide-ge128 : goal.returns-then-wide-ge128
returns-then-wide-ge128 c =
    let none = box_rows_none _ _ _ _ _ _ in record {
      lower_bound = none.0;
      plane_after = none.2;
    }

pub loop-row-init : goal.loop-row-init
loop-row-init c = (omega arith, omega arith, box_rows_none _ _ _ _ _ _)

pub loop-row-preserved : goal.loop-row-preserved
loop-row-preserved c = (omega arith, omega arith, box_rows_two _ _ _ _ _ _ c.loop-row.row c.loop-row.invariant.2 c.loop-row-test.true c.chroma_two.ensures)

pub returns : goal.returns
returns c =
    let done = c.loop-row.invariant.2 in record {
      lower_bound = done.0;
      plane_after = done.2;
    }
