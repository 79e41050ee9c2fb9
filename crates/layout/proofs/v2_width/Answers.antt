-- `layout::v2_width` meets its contract: each rule has its width.
-- Assumes nothing.
use Rattle.layout.proofs.v2_width.Goals as goal

pub returns-in-To16 : goal.returns-in-To16
returns-in-To16 c = rw c.in-To16.is c.round_up_16.ensures

pub returns-in-To32 : goal.returns-in-To32
returns-in-To32 c = rw c.in-To32.is c.round_up_32.ensures
