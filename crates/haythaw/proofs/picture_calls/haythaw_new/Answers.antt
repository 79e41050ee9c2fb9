-- `haythaw_new` meets its contract: it hands all over, and of the answer it hands back the number.
-- Assumes nothing.
use Rattle.haythaw.proofs.Numbers.{number_alone}
use Rattle.haythaw.proofs.picture_calls.haythaw_new.Goals as goal

pub new-requires : goal.new-requires
new-requires c = tt

pub shape_of-y : goal.shape_of-y
shape_of-y c = c.new.auto.y

pub shape_of-u : goal.shape_of-u
shape_of-u c = c.new.auto.u

pub shape_of-v : goal.shape_of-v
shape_of-v c = c.new.auto.v

pub shape_of-map : goal.shape_of-map
shape_of-map c = c.new.auto.map

pub returns : goal.returns
returns c = number_alone c.new.ensures
