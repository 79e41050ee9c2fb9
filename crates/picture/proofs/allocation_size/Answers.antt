-- `picture::allocation_size` meets its contract: no plane is above 65,536 x 65,536 bytes, so nothing wraps.
-- Assumes nothing.
use Prim.Native.Nat.{◌*◌, ◌≤◌}
use native.Mathlib.Omega.{arith}
use Rattle.picture.proofs.Sizes.{plane_small}
use Rattle.picture.proofs.allocation_size.Goals.{After-stride}
use Rattle.picture.proofs.allocation_size.Goals as goal

-- the product that the code makes is a plane's size
small : (c : After-stride) → c.rows.result * c.stride.result ≤ 4294967296
small c = plane_small c.rows.ensures.1 c.stride.ensures.1

pub overflow_mul-result : goal.overflow_mul-result
overflow_mul-result c = omega (arith, small (goal.at.overflow_mul-result c).After-stride)

pub overflow_mul-result-2 : goal.overflow_mul-result-2
overflow_mul-result-2 c = omega (arith, small (goal.at.overflow_mul-result-2 c).After-stride)

pub returns : goal.returns
returns c = λ i. 3 * (c.rows.ensures.0 i * c.stride.ensures.0 i)
