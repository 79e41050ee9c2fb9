-- `from_rgba::make_planes` meets its contract: the planes are written whole, and each pass goes over what was written.
-- Assumes nothing.
use mathlib.Core.Path.{◌∙◌}
use Rattle.picture.specs.Sizes.{stride_of, rows_of}
use Rattle.from_rgba.specs.Averaged.{averaged}
use Rattle.from_rgba.specs.FromRgba.{luma_plane, chroma_u_plane, chroma_v_plane, with_edge}
use Rattle.from_rgba.proofs.Passes.{local_after, gone_over}
use Rattle.from_rgba.proofs.FromRgbaOutcome.{edge_local, average_local}
use Rattle.from_rgba.proofs.make_planes.Goals as goal

pub convert_planes-requires : goal.convert_planes-requires
convert_planes-requires c = c.requires

pub put_edge-requires : goal.put_edge-requires
put_edge-requires c = rw c.convert_planes.auto.y c.requires.y_fits

pub finish_chroma-requires : goal.finish_chroma-requires
finish_chroma-requires c = rw c.convert_planes.auto.u c.requires.u_fits

pub finish_chroma-requires-2 : goal.finish_chroma-requires-2
finish_chroma-requires-2 c = rw c.convert_planes.auto.v c.requires.v_fits

pub shape_of-y : goal.shape_of-y
shape_of-y c = c.put_edge.auto.plane ∙ c.convert_planes.auto.y

pub shape_of-u : goal.shape_of-u
shape_of-u c = c.finish_chroma.auto.plane ∙ c.convert_planes.auto.u

pub shape_of-v : goal.shape_of-v
shape_of-v c = c.finish_chroma-2.auto.plane ∙ c.convert_planes.auto.v

pub returns : goal.returns
returns c =
    let a = c.args in
    let z = a.size in
    let px = a.rgba.now in
    let w = stride_of z in
    let h = rows_of z in
    let edge = edge_local z a.edge in
    let both = local_after w h averaged (with_edge a.edge z) (average_local z) edge in record {
      y = gone_over w h (with_edge a.edge z) (luma_plane a.matrix z px) a.y.now edge c.requires.y_fits c.convert_planes.ensures.y c.put_edge.ensures;
      u = gone_over w h (λ p. averaged (with_edge a.edge z p)) (chroma_u_plane a.matrix z px) a.u.now both c.requires.u_fits c.convert_planes.ensures.u c.finish_chroma.ensures;
      v = gone_over w h (λ p. averaged (with_edge a.edge z p)) (chroma_v_plane a.matrix z px) a.v.now both c.requires.v_fits c.convert_planes.ensures.v c.finish_chroma-2.ensures;
    }
