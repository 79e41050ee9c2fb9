-- `check_pair::planes::pair_verdict` meets its contract: a view that has the sizes of the split's is read beside planes that have its rows.
-- Assumes nothing.
use mathlib.Core.Path.{sym, ◌∙◌}
use Rattle.check_pair.proofs.Parts.{source_whole}
use Rattle.check_pair.proofs.planes.pair_verdict.Goals as goal

pub view_verdict-requires : goal.view_verdict-requires
view_verdict-requires c =
    let a = c.args in
    source_whole a.way a.size a.main.sizes a.from c.split_layout-layout.ensures c.requires.stride c.requires.long c.requires.small (sym c.sizes_agree.ensures ∙ c.if-not-sizes_agree.false)

pub view_verdict-requires-2 : goal.view_verdict-requires-2
view_verdict-requires-2 c =
    let a = c.args in
    source_whole a.way a.size a.auxiliary.sizes a.from c.split_layout-layout.ensures c.requires.stride c.requires.long c.requires.small (sym c.sizes_agree-else-not-sizes_agree.ensures ∙ c.if-not-sizes_agree-2.false)
