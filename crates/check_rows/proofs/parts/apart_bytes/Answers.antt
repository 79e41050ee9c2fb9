-- `check_rows::parts::apart_bytes` meets its contract. The invariant: the bits are 0 exactly when the columns that were passed are right.
-- Assumes nothing.
use lib.ListN.{get_or}
use Rattle.std.specs.Int.{to_le_bytes, w16}
use Rattle.check_rows.proofs.Bits.{bits_more}
use Rattle.check_rows.proofs.parts.apart_bytes.Goals as goal

pub loop-i-preserved : goal.loop-i-preserved
loop-i-preserved g c =
    let a = c.args in
    rw c.to_le_bytes.ensures (bits_more a.row.now (λ k. get_or (to_le_bytes w16 (get_or a.pairs.now k 0)) g.row.WHICH 0) c.loop-i.i c.loop-i.bits c.loop-i.invariant)
