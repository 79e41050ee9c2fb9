-- `haythaw_check_v2_32` meets its contract: it hands all over, and hands back what it is given.
-- Assumes nothing.
use Rattle.haythaw.proofs.check_calls.haythaw_check_v2_32.Goals as goal

pub check-requires : goal.check-requires
check-requires c = tt

pub returns : goal.returns
returns c = c.check.ensures
