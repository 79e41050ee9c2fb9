-- Y and a small share fit 16 bits; the two tests are those of the clamp. Assumes nothing.
use borrow.Author.Rules.{rules}
use Rattle.colour.proofs.Shares.{plus_fits, below, byte_fits, byte_is, over}
use Rattle.colour.proofs.channel.Goals as goal

pub overflow_add-t : goal.overflow_add-t
overflow_add-t c = plus_fits c.args.y c.args.s (search rules) c.requires

pub returns-then-t-lt0 : goal.returns-then-t-lt0
returns-then-t-lt0 c = below c.args.y c.args.s (search rules) c.requires c.if-t-lt0.true

pub overflow_cast-result : goal.overflow_cast-result
overflow_cast-result c = byte_fits c.args.y c.args.s (search rules) c.requires c.if-t-lt0.false c.if-t-lt255.true

pub returns-then-t-lt255 : goal.returns-then-t-lt255
returns-then-t-lt255 c = byte_is c.args.y c.args.s (search rules) c.requires c.if-t-lt0.false c.if-t-lt255.true

pub returns-else-t-lt255 : goal.returns-else-t-lt255
returns-else-t-lt255 c = over c.args.y c.args.s (search rules) c.requires c.if-t-lt0.false c.if-t-lt255.false
