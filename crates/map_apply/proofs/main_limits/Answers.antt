-- `map_apply::main_limits` meets its contract: both sides halved and rounded up.
-- Assumes nothing.
use Rattle.map_apply.specs.Boxes.{limits}
use Rattle.map_apply.proofs.main_limits.Goals as goal

pub returns : goal.returns
returns c = λ i. limits (c.half_up.ensures i) (c.half_up-2.ensures i)
