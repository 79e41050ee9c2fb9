-- `wire_back::write_read` meets its contract: what was written is read from the output.
-- Assumes nothing.
use Rattle.wire_write.specs.Writing.{given_by}
use Rattle.wire_back.proofs.Written.{refused_ends, fits, read_ends}
use Rattle.wire_back.proofs.write_read.Goals as goal

pub returns-then-written-ne0 : goal.returns-then-written-ne0
returns-then-written-ne0 c = refused_ends _ _ _ _ c.write-written.ensures c.if-written-ne0.true c.refused.ensures

pub slice_bounds-read-end : goal.slice_bounds-read-end
slice_bounds-read-end c =
    let a = c.args in
    fits a.kind (given_by a.luma) (given_by a.chroma) a.out.now c.write-written.ensures c.if-written-ne0.false

pub returns : goal.returns
returns c = read_ends _ _ _ _ c.write-written.ensures c.if-written-ne0.false c.read.ensures.answer
