-- `wire_fields::quantiser_in` meets its contract: masks are remainders, shifts are quotients.
-- Assumes nothing.
use Prim.Native.Nat.{◌/◌}
use lib.Dec.{eqb}
use lib.Bits.{and_mask}
use Rattle.wire_fields.proofs.quantiser_in.Goals as goal

pub returns : goal.returns
returns c = λ i. record { value = and_mask c.args.b 6 i; reserved = eqb (and_mask (c.args.b / 64) 1 i) 1; progressive = eqb (c.args.b / 128) 1 }
