-- `haythaw_split_v2` meets its contract: it hands all over, and hands back what it is given.
-- Assumes nothing.
use Rattle.haythaw.proofs.split_calls.haythaw_split_v2.Goals as goal

pub split-requires : goal.split-requires
split-requires c = tt

pub shape_of-main_y : goal.shape_of-main_y
shape_of-main_y c = c.split.auto.main_y

pub shape_of-main_u : goal.shape_of-main_u
shape_of-main_u c = c.split.auto.main_u

pub shape_of-main_v : goal.shape_of-main_v
shape_of-main_v c = c.split.auto.main_v

pub shape_of-auxiliary_y : goal.shape_of-auxiliary_y
shape_of-auxiliary_y c = c.split.auto.auxiliary_y

pub shape_of-auxiliary_u : goal.shape_of-auxiliary_u
shape_of-auxiliary_u c = c.split.auto.auxiliary_u

pub shape_of-auxiliary_v : goal.shape_of-auxiliary_v
shape_of-auxiliary_v c = c.split.auto.auxiliary_v

pub returns : goal.returns
returns c = c.split.ensures
