-- `filtered` on the first sample and the sum of the others is what the block's filter says. Assumes nothing.
use mathlib.Core.Path.{ap, ◌∙◌}
use lib.ListN.{get_or}
use Rattle.colour.specs.Colour.{undone_of}
use Rattle.colour.proofs.filter.Goals as goal

pub returns : goal.returns
returns c =
    let b = c.args.b in
    c.filtered.ensures ∙ ap (undone_of (get_or b.samples 0 0)) c.others-s.ensures
