-- `haythaw_view_to_rgba_limited` meets its contract: it hands all over, and hands back what it is given.
-- Assumes nothing.
use Rattle.haythaw.proofs.limited_calls.haythaw_view_to_rgba_limited.Goals as goal

pub view_to_rgba-requires : goal.view_to_rgba-requires
view_to_rgba-requires c = tt

pub shape_of-out : goal.shape_of-out
shape_of-out c = c.view_to_rgba.auto.out

pub returns : goal.returns
returns c = c.view_to_rgba.ensures
