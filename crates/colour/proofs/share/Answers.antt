-- A small product's floor fits 16 bits. Assumes nothing.
use Rattle.colour.proofs.Shares.{floor_fits, floor_kept}
use Rattle.colour.proofs.share.Goals as goal

pub overflow_cast-result : goal.overflow_cast-result
overflow_cast-result c = floor_fits c.args.p c.requires

pub returns : goal.returns
returns c = floor_kept c.args.p c.requires
