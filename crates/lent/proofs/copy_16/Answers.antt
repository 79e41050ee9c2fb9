-- `lent::copy_16` meets its contract: what went into the array comes out of it.
-- Assumes nothing.
use native.Mathlib.Omega.{arith}
use mathlib.Core.Path.{◌∙◌}
use Rattle.lent.proofs.Copies.{through}
use Rattle.lent.proofs.copy_16.Goals as goal

pub returns : goal.returns
returns c =
    let a = c.args in
    c.copy_front-2.ensures ∙ rw c.copy_front.ensures (through a.dst.now a.src.now _ _ (omega arith) (omega arith) (omega arith))
