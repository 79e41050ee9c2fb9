-- `map::boxes::turn_8` meets its contract: what was written into the array comes out of it.
-- Assumes nothing.
use native.Mathlib.Omega.{arith}
use mathlib.Core.Path.{◌∙◌}
use lib.ListN.{get_or}
use Rattle.lent.proofs.Copies.{by_array}
use Rattle.map.specs.Map.{turned_of}
use Rattle.map.proofs.boxes.turn_8.Goals as goal

pub returns : goal.returns
returns c =
    let a = c.args in
    c.copy_front.ensures ∙ rw c.turned_front.ensures (by_array a.dst.now _ (λ k. turned_of (get_or a.dst.now k 0)) _ (omega arith) (omega arith))
