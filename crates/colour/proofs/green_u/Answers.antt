-- The rule, over the whole table: the constant's 256 numbers are the rule's by computation. Assumes nothing.
use mathlib.Core.Path.{refl}
use Rattle.colour.specs.Products.{green_u}
use Rattle.colour.proofs.green_u.Goals as goal

pub returns : goal.returns
unfolding green_u
returns c = refl
