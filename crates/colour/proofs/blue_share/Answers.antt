-- The table's entry at a chroma byte is the rule's product, which is small. Assumes nothing.
use Rattle.colour.specs.Products.{blue_product, blue_u, blue_share_of}
use Rattle.colour.proofs.Shares.{blue_small, one_small, one_shared}
use Rattle.colour.proofs.blue_share.Goals as goal

pub share-requires : goal.share-requires
unfolding blue_u
share-requires c = one_small blue_product blue_small c.blue_u.ensures c.ranges.u.fits

pub returns : goal.returns
unfolding blue_u blue_share_of
returns c = one_shared blue_product blue_small c.blue_u.ensures c.ranges.u.fits c.share.ensures
