-- `strict::lists::unsound` meets its contract: an index is found exactly when some rectangle is unsound.
-- Assumes nothing.
use mathlib.Core.Path.{◌∙◌}
use Rattle.strict.proofs.Faults.{unsound_found}
use Rattle.strict.proofs.Searched.{index_found}
use Rattle.strict.proofs.lists.unsound.Goals as goal

pub returns : goal.returns
returns c =
    let a = c.args in
    let found = c.first_unsound_index.ensures in
    c.is_some.ensures ∙ index_found _ _ found.first found.inside ∙ unsound_found a.size a.rects.now
