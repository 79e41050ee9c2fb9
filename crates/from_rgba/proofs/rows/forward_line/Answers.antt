-- `from_rgba::rows::forward_line` meets its contract: the pixels and the three rows are parts of the same number of places.
-- Assumes nothing.
use Prim.Native.Nat.{◌+◌, ◌*◌, ◌-◌}
use mathlib.Core.Path.{refl}
use borrow.Rule.Slice.PartMut.{same_len_mid}
use Rattle.from_rgba.proofs.Converted.{row_fits, line_back}
use Rattle.from_rgba.proofs.rows.forward_line.Goals as goal

pub forward_row-requires : goal.forward_row-requires
forward_row-requires c =
    let a = c.args in
    row_fits a.rgba.now a.y.now a.u.now a.v.now a.at (a.at + 4 * a.n) a.line _ _ _ a.n refl c.requires.pixels refl c.requires.y_fits refl c.requires.u_fits refl c.requires.v_fits

pub shape_of-y : goal.shape_of-y
shape_of-y c =
    let a = c.args in
    same_len_mid a.line (a.line + a.n - a.line) a.y.now c.forward_row.new.y c.forward_row.auto.y

pub shape_of-u : goal.shape_of-u
shape_of-u c =
    let a = c.args in
    same_len_mid a.line (a.line + a.n - a.line) a.u.now c.forward_row.new.u c.forward_row.auto.u

pub shape_of-v : goal.shape_of-v
shape_of-v c =
    let a = c.args in
    same_len_mid a.line (a.line + a.n - a.line) a.v.now c.forward_row.new.v c.forward_row.auto.v

pub returns : goal.returns
returns c =
    let a = c.args in
    record {
      y = line_back a.matrix a.rgba.now a.y.now a.at a.n a.line (λ p. p.y) c.forward_row.ensures.y;
      u = line_back a.matrix a.rgba.now a.u.now a.at a.n a.line (λ p. p.u) c.forward_row.ensures.u;
      v = line_back a.matrix a.rgba.now a.v.now a.at a.n a.line (λ p. p.v) c.forward_row.ensures.v;
    }
