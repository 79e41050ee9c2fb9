-- `map::boxes::set_few` meets its contract: two ends of 4 are all of 4 to 8 bytes, two of 2 all of 2 and 3; fewer are the front alone.
-- Assumes nothing.
use native.Mathlib.Omega.{arith}
use Rattle.lent.proofs.SoFar.{so_far_all}
use Rattle.map.proofs.boxes.set_few.Goals as goal

pub returns : goal.returns
returns c = so_far_all _ _ _ (omega arith, c.set_front.ensures) (omega arith)
