-- `haythaw_avc_to_annex_b` meets its contract: it hands all over, and hands back what it is given.
-- Assumes nothing.
use Rattle.haythaw.proofs.annex_b_calls.haythaw_avc_to_annex_b.Goals as goal

pub avc_to_annex_b_into-requires : goal.avc_to_annex_b_into-requires
avc_to_annex_b_into-requires c = tt

pub shape_of-out : goal.shape_of-out
shape_of-out c = c.avc_to_annex_b_into.auto.out

pub returns : goal.returns
returns c = c.avc_to_annex_b_into.ensures
