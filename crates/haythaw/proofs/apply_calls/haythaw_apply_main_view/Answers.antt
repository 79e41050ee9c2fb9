-- `haythaw_apply_main_view` meets its contract: it hands all over, and of the answer it hands back the number.
-- Assumes nothing.
use Rattle.haythaw.proofs.Numbers.{number_alone}
use Rattle.haythaw.proofs.apply_calls.haythaw_apply_main_view.Goals as goal

pub apply_main_view-requires : goal.apply_main_view-requires
apply_main_view-requires c = tt

pub shape_of-y : goal.shape_of-y
shape_of-y c = c.apply_main_view.auto.y

pub shape_of-u : goal.shape_of-u
shape_of-u c = c.apply_main_view.auto.u

pub shape_of-v : goal.shape_of-v
shape_of-v c = c.apply_main_view.auto.v

pub shape_of-map : goal.shape_of-map
shape_of-map c = c.apply_main_view.auto.map

pub returns : goal.returns
returns c = number_alone c.apply_main_view.ensures
