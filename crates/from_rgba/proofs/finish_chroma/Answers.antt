-- `from_rgba::finish_chroma` meets its contract: the averages are those of what the edge rule left.
-- Assumes nothing.
use native.Mathlib.Omega.{arith}
use mathlib.Core.Path.{◌∙◌}
use Rattle.lent.specs.Samples.{sample}
use Rattle.picture.specs.Sizes.{stride_of, rows_of}
use Rattle.from_rgba.specs.Averaged.{averaged}
use Rattle.from_rgba.specs.FromRgba.{with_edge}
use Rattle.from_rgba.proofs.Passes.{gone_over}
use Rattle.from_rgba.proofs.FromRgbaOutcome.{average_local}
use Rattle.from_rgba.proofs.finish_chroma.Goals as goal

pub put_edge-requires : goal.put_edge-requires
put_edge-requires c = c.requires

pub average_plane-requires : goal.average_plane-requires
average_plane-requires c = record {
  stride_in_bounds = rw (c.stride-stride.ensures.0, c.rows-rows.ensures.0, c.put_edge.auto.plane) c.requires;
  stride_value = omega arith;
  rows_value = omega arith;
}

pub shape_of-plane : goal.shape_of-plane
shape_of-plane c = c.average_plane.auto.plane ∙ c.put_edge.auto.plane

pub returns : goal.returns
returns c =
    let a = c.args in
    let z = a.size in
    gone_over (stride_of z) (rows_of z) averaged (with_edge a.edge z (sample a.plane.now (stride_of z))) a.plane.now (average_local z) c.requires c.put_edge.ensures
    (rw (c.stride-stride.ensures.0, c.rows-rows.ensures.0) at c.average_plane.ensures)
