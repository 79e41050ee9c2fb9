-- `haythaw_apply_auxiliary_v2_exact` meets its contract: it hands all over with the layout whose W is the width, and of the answer it hands back
-- the number.
-- Assumes nothing.
use Rattle.haythaw.specs.Sizes.{sizes_of, size_of}
use Rattle.haythaw.proofs.Numbers.{auxiliary_number}
use Rattle.haythaw.proofs.apply_calls.haythaw_apply_auxiliary_v2_exact.Goals as goal

pub exact_layout-layout-requires : goal.exact_layout-layout-requires
exact_layout-layout-requires c = tt

pub apply_auxiliary_view-requires : goal.apply_auxiliary_view-requires
apply_auxiliary_view-requires c = tt

pub shape_of-y : goal.shape_of-y
shape_of-y c = c.apply_auxiliary_view.auto.y

pub shape_of-u : goal.shape_of-u
shape_of-u c = c.apply_auxiliary_view.auto.u

pub shape_of-v : goal.shape_of-v
shape_of-v c = c.apply_auxiliary_view.auto.v

pub shape_of-map : goal.shape_of-map
shape_of-map c = c.apply_auxiliary_view.auto.map

pub returns : goal.returns
returns c =
    let a = c.args in
    auxiliary_number c.exact_layout-layout.ensures (size_of a.width a.height) (sizes_of a.view_width a.view_height a.luma_stride a.chroma_stride)
    a.rects.now a.view_y.now a.view_u.now a.view_v.now a.y.now a.u.now a.v.now a.map.now c.apply_auxiliary_view.ensures
