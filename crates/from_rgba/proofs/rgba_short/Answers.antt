-- `from_rgba::rgba_short` meets its contract: a width times a height times 4 is far below the machine word's end.
-- Assumes nothing.
use Prim.Native.Nat.{◌*◌, ◌≤◌}
use native.Mathlib.Omega.{arith}
use Rattle.picture.proofs.Sizes.{plane_small}
use borrow.Author.Rules.{rules}
use Rattle.from_rgba.proofs.rgba_short.Goals as goal

-- a width and a height are below 65,536
pub overflow_mul-result : goal.overflow_mul-result
overflow_mul-result c = let z = c.args.size in let small : z.width * z.height ≤ 4294967296 = plane_small (search rules) (search rules) in omega arith

pub overflow_mul-result-2 : goal.overflow_mul-result-2
overflow_mul-result-2 c = let z = c.args.size in let small : z.width * z.height ≤ 4294967296 = plane_small (search rules) (search rules) in omega arith
