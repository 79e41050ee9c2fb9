-- `wire_write::put::put_stream` meets its contract: four parts of what it was lent, one after the other.
-- Assumes nothing.
use Rattle.wire_write.proofs.Stream.{stream_written}
use Rattle.wire_write.proofs.put.put_stream.Goals as goal

pub returns : goal.returns
returns c =
    let s = c.args.stream in
    stream_written c.args.dst.now s.rects.now s.pairs.now s.«data».now c.requires.0 c.put_u32.ensures c.put_numbers.ensures c.copy.ensures c.copy-2.ensures
