-- `split_rows::picked_part` meets its contract: 64 bytes through pairs, fewer one by one.
-- Assumes nothing.
use native.Mathlib.Omega.{arith}
use Rattle.lent.proofs.SoFar.{so_far_all}
use Rattle.split_rows.proofs.picked_part.Goals as goal

pub returns-else-n-eq64 : goal.returns-else-n-eq64
returns-else-n-eq64 g c = rw c.if-this-eq2.true (so_far_all _ _ _ (c.seconds-else-n-eq64.auto.dst, c.seconds-else-n-eq64.ensures) (omega arith))
