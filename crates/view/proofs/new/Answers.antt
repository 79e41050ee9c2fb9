-- `view::new` meets its contract: its number is `check`'s, and its count 0 with every number.
-- Assumes nothing.
use mathlib.Core.Path.{refl, sym, ◌∙◌}
use Rattle.lent.proofs.Bools.{cond_same}
use Rattle.view.proofs.new.Goals as goal

pub returns : goal.returns
returns c = record { answer = simp (cond_same, sym (c.number.ensures ∙ c.check.ensures)); buffers = refl }
