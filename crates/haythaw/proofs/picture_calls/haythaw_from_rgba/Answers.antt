-- `haythaw_from_rgba` meets its contract: it hands all over, and of the answer it hands back the number.
-- Assumes nothing.
use Rattle.haythaw.proofs.Numbers.{number_alone}
use Rattle.haythaw.proofs.picture_calls.haythaw_from_rgba.Goals as goal

pub from_rgba-requires : goal.from_rgba-requires
from_rgba-requires c = tt

pub shape_of-y : goal.shape_of-y
shape_of-y c = c.from_rgba.auto.y

pub shape_of-u : goal.shape_of-u
shape_of-u c = c.from_rgba.auto.u

pub shape_of-v : goal.shape_of-v
shape_of-v c = c.from_rgba.auto.v

pub shape_of-map : goal.shape_of-map
shape_of-map c = c.from_rgba.auto.map

pub returns : goal.returns
returns c = number_alone c.from_rgba.ensures
