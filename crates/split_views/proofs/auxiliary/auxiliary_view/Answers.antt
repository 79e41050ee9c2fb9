-- `split_views::auxiliary::auxiliary_view` meets its contract: the luma plane, and both chroma planes, which are layout's.
-- Assumes nothing.
use Prim.Native.Nat.{◌/◌}
use mathlib.Core.Path.{◌∙◌}
use Rattle.layout.specs.declared.Chroma.TheVariants.{CU, CV}
use Rattle.split_views.proofs.Planes.{chroma_plane}
use Rattle.split_views.proofs.auxiliary.auxiliary_view.Goals as goal

pub returns : goal.returns
returns c =
    let a = c.args in
    let plane = chroma_plane a.stride a.u.now a.v.now a.layout in
    record {
      y_is = c.luma.ensures;
      u_is = c.chroma.ensures ∙ plane CU (a.wide / 2) (a.rows / 2) a.auxiliary_u.now;
      v_is = c.chroma-2.ensures ∙ plane CV (a.wide / 2) (a.rows / 2) a.auxiliary_v.now;
    }
