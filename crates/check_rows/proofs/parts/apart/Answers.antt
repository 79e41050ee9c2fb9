-- `check_rows::parts::apart` meets its contract. The invariant: the bits are 0 exactly when the columns that were passed are right.
-- Assumes nothing.
use lib.ListN.{get_or}
use Rattle.check_rows.proofs.Bits.{bits_more}
use Rattle.check_rows.proofs.parts.apart.Goals as goal

pub loop-i-preserved : goal.loop-i-preserved
loop-i-preserved c =
    let a = c.args in
    bits_more a.row.now (λ k. get_or a.src.now k 0) c.loop-i.i c.loop-i.bits c.loop-i.invariant
