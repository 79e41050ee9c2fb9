-- `wire_read::read` meets its contract: what is carried, or the number of the refusal.
-- Assumes nothing.
use mathlib.Core.Path.{refl, ap, ◌∙◌}
use Rattle.lent.proofs.Answered.{never_0, refused_as}
use Rattle.wire_read.specs.Reading.{refused_with}
use Rattle.wire_read.proofs.Reading.{read_refused}
use Rattle.wire_read.proofs.read.Goals as goal

pub returns-in-Err : goal.returns-in-Err
returns-in-Err c =
    record {
      answer = c.refused.ensures ∙ ap refused_with c.number.ensures ∙ read_refused _ _ (refused_as c.accept.ensures.number c.in-Err.is) (never_0 _);
      buffers = refl;
    }
