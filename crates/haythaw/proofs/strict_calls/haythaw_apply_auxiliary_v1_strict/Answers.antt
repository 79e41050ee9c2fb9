-- `haythaw_apply_auxiliary_v1_strict` meets its contract: it hands all over, and of the answer it hands back the number.
-- Assumes nothing.
use Rattle.haythaw.proofs.Numbers.{number_alone}
use Rattle.haythaw.proofs.strict_calls.haythaw_apply_auxiliary_v1_strict.Goals as goal

pub apply_auxiliary_view_strict-requires : goal.apply_auxiliary_view_strict-requires
apply_auxiliary_view_strict-requires c = tt

pub shape_of-y : goal.shape_of-y
shape_of-y c = c.apply_auxiliary_view_strict.auto.y

pub shape_of-u : goal.shape_of-u
shape_of-u c = c.apply_auxiliary_view_strict.auto.u

pub shape_of-v : goal.shape_of-v
shape_of-v c = c.apply_auxiliary_view_strict.auto.v

pub shape_of-map : goal.shape_of-map
shape_of-map c = c.apply_auxiliary_view_strict.auto.map

pub returns : goal.returns
returns c = number_alone c.apply_auxiliary_view_strict.ensures
