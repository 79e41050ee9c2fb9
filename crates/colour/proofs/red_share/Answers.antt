-- The table's entry at a chroma byte is the rule's product, which is small. Assumes nothing.
use Rattle.colour.specs.Products.{red_product, red_v, red_share_of}
use Rattle.colour.proofs.Shares.{red_small, one_small, one_shared}
use Rattle.colour.proofs.red_share.Goals as goal

pub share-requires : goal.share-requires
unfolding red_v
share-requires c = one_small red_product red_small c.red_v.ensures c.ranges.v.fits

pub returns : goal.returns
unfolding red_v red_share_of
returns c = one_shared red_product red_small c.red_v.ensures c.ranges.v.fits c.share.ensures
