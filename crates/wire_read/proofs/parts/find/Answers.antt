-- `wire_read::parts::find` meets its contract: one stream of what `wire_read::read` answers, whose parts lie inside the payload.
-- Assumes nothing.
use Rattle.wire_read.specs.declared.parts.Which.TheVariants.{Luma, Chroma}
use Rattle.wire_read.proofs.PartLaws.{taken}
use Rattle.wire_read.proofs.parts.find.Goals as goal

pub returns-in-Luma : goal.returns-in-Luma
returns-in-Luma c = taken _ _ Luma _ c.read-a.ensures.answer c.in-Luma.is

pub returns-in-Chroma : goal.returns-in-Chroma
returns-in-Chroma c = taken _ _ Chroma _ c.read-a.ensures.answer c.in-Chroma.is
