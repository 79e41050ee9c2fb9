-- `wire_fields::size` meets its contract: the mask leaves the low 30 bits.
-- Assumes nothing.
use lib.Bits.{and_mask}
use Rattle.wire_fields.proofs.size.Goals as goal

pub returns : goal.returns
returns c = and_mask c.args.info 30
