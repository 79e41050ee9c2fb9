-- `wire_fields::info` meets its contract: the two fields do not meet, so `|` adds them.
-- Assumes nothing.
use Rattle.wire_fields.proofs.Fields.{info_is}
use Rattle.wire_fields.proofs.info.Goals as goal

pub returns : goal.returns
returns c = info_is c.args.kind c.args.size
