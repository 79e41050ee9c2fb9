-- `from_rgba::rows::convert_planes` meets its contract: padding, then the picture's own places, is the whole plane.
-- Assumes nothing.
use mathlib.Core.Path.{◌∙◌}
use Rattle.from_rgba.specs.Rows.{input_at}
use Rattle.from_rgba.proofs.Padding.{padded_plane}
use Rattle.from_rgba.proofs.rows.convert_planes.Goals as goal

pub shape_of-y : goal.shape_of-y
shape_of-y c = c.forward_rows.auto.y ∙ c.pad_plane.auto.plane

pub shape_of-u : goal.shape_of-u
shape_of-u c = c.forward_rows.auto.u ∙ c.pad_plane-2.auto.plane

pub shape_of-v : goal.shape_of-v
shape_of-v c = c.forward_rows.auto.v ∙ c.pad_plane-3.auto.plane

pub returns : goal.returns
returns c =
    let a = c.args in
    let px = a.rgba.now in
    record {
      y = padded_plane a.width a.height 0 (λ r k. (input_at a.matrix px a.width r k).y) a.y.now c.pad_plane.ensures c.forward_rows.ensures.y;
      u = padded_plane a.width a.height 128 (λ r k. (input_at a.matrix px a.width r k).u) a.u.now c.pad_plane-2.ensures c.forward_rows.ensures.u;
      v = padded_plane a.width a.height 128 (λ r k. (input_at a.matrix px a.width r k).v) a.v.now c.pad_plane-3.ensures c.forward_rows.ensures.v;
    }
