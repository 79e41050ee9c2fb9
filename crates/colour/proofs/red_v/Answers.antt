-- The rule, over the whole table: the constant's 256 numbers are the rule's by computation. Assumes nothing.
use mathlib.Core.Path.{refl}
use Rattle.colour.specs.Products.{red_v}
use Rattle.colour.proofs.red_v.Goals as goal

pub returns : goal.returns
unfolding red_v
returns c = refl
