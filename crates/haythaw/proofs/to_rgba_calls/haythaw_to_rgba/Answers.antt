-- `haythaw_to_rgba` meets its contract: it hands all over, and hands back what it is given.
-- Assumes nothing.
use Rattle.haythaw.proofs.to_rgba_calls.haythaw_to_rgba.Goals as goal

pub to_rgba-requires : goal.to_rgba-requires
to_rgba-requires c = tt

pub shape_of-out : goal.shape_of-out
shape_of-out c = c.to_rgba.auto.out

pub returns : goal.returns
returns c = c.to_rgba.ensures
