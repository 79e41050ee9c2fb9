-- The entries at two chroma bytes are the rules' products, whose sum is small. Assumes nothing.
use Rattle.colour.specs.Products.{green_u_product, green_v_product, green_u, green_v, green_share_of}
use Rattle.colour.proofs.Shares.{green_u_small, green_v_small, green_small, sum_fits, sum_small, sum_shared}
use Rattle.colour.proofs.green_share.Goals as goal

pub overflow_add-p : goal.overflow_add-p
unfolding green_u green_v
overflow_add-p c =
    sum_fits green_u_product green_v_product green_u_small green_v_small green_small
    c.green_u.ensures c.green_v.ensures c.ranges.u.fits c.ranges.v.fits

pub share-requires : goal.share-requires
unfolding green_u green_v
share-requires c =
    sum_small green_u_product green_v_product green_u_small green_v_small green_small
    c.green_u.ensures c.green_v.ensures c.ranges.u.fits c.ranges.v.fits

pub returns : goal.returns
unfolding green_u green_v green_share_of
returns c =
    sum_shared green_u_product green_v_product green_u_small green_v_small green_small
    c.green_u.ensures c.green_v.ensures c.ranges.u.fits c.ranges.v.fits c.share.ensures
