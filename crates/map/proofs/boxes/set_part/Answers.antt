-- `map::boxes::set_part` meets its contract: each of its calls sets every byte.
-- Assumes nothing.
use native.Mathlib.Omega.{arith}
use Rattle.lent.proofs.SoFar.{so_far_all}
use Rattle.map.proofs.boxes.set_part.Goals as goal

pub returns-then-n-eq8 : goal.returns-then-n-eq8
returns-then-n-eq8 c = so_far_all _ _ 8 (omega arith, c.set_front.ensures) (omega arith)
