-- The rule, over the whole table: the constant's 256 numbers are the rule's by computation. Assumes nothing.
use mathlib.Core.Path.{refl}
use Rattle.colour.specs.Products.{blue_u}
use Rattle.colour.proofs.blue_u.Goals as goal

pub returns : goal.returns
unfolding blue_u
returns c = refl
