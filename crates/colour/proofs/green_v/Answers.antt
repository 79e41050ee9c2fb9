-- The rule, over the whole table: the constant's 256 numbers are the rule's by computation. Assumes nothing.
use mathlib.Core.Path.{refl}
use Rattle.colour.specs.Products.{green_v}
use Rattle.colour.proofs.green_v.Goals as goal

pub returns : goal.returns
unfolding green_v
returns c = refl
