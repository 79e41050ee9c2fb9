-- `to_rgba_rows::picture_rows::put_row` meets its contract: an even row of an even number of rows has a row below it, which the filter reads. So it is at
-- most rows - 2, and the least of the two is the row itself. Of an odd row no sample is filtered.
-- Assumes nothing.
use native.Mathlib.Omega.{arith}
use borrow.Author.Rules.{rules}
use mathlib.Core.Path.{◌≡◌}
use Rattle.lent.proofs.Cells.{row_in}
use Rattle.to_rgba_rows.proofs.Rules.{two_rows}
use Rattle.to_rgba_rows.proofs.Filtered.{odd_row_none}
use Rattle.to_rgba_rows.proofs.picture_rows.put_row.Goals as goal

pub even_row-requires : goal.even_row-requires
even_row-requires c =
    let a = c.args in
    let fits = two_rows a.stride a.rows c.min-even.result (omega arith) in
    record {
      row_fits = record { exact = search rules; inside = search rules; y_fits = omega arith; u_fits = omega arith; v_fits = omega arith };
      stride_value = search rules;
    }

pub returns-then-row-eq0 : goal.returns-then-row-eq0
returns-then-row-eq0 c =
    let a = c.args in
    let same : c.min-even.result ≡ a.row = omega arith in
    record {
      out_after = rw same at (c.even_row.ensures.out_after (omega arith));
      value = rw same at (c.even_row.ensures.value (omega arith));
    }

pub odd_row-requires : goal.odd_row-requires
odd_row-requires c =
    let a = c.args in
    let fits = row_in a.stride a.rows a.row (omega arith) in
    record { exact = search rules; inside = search rules; y_fits = omega arith; u_fits = omega arith; v_fits = omega arith }

pub returns : goal.returns
returns c =
    let a = c.args in
    let none = odd_row_none a.stride a.row a.left (omega arith) a.n in
    record {
      out_after = c.odd_row.ensures (omega arith);
      value = λ t. record { u = none a.u.now t; v = none a.v.now t };
    }
