-- `haythaw_from_rgba_limited` meets its contract: it hands all over, and of the answer it hands back the number.
-- Assumes nothing.
use Rattle.haythaw.proofs.Numbers.{number_alone}
use Rattle.haythaw.proofs.limited_calls.haythaw_from_rgba_limited.Goals as goal

pub from_rgba_limited-requires : goal.from_rgba_limited-requires
from_rgba_limited-requires c = tt

pub shape_of-y : goal.shape_of-y
shape_of-y c = c.from_rgba_limited.auto.y

pub shape_of-u : goal.shape_of-u
shape_of-u c = c.from_rgba_limited.auto.u

pub shape_of-v : goal.shape_of-v
shape_of-v c = c.from_rgba_limited.auto.v

pub shape_of-map : goal.shape_of-map
shape_of-map c = c.from_rgba_limited.auto.map

pub returns : goal.returns
returns c = number_alone c.from_rgba_limited.ensures
