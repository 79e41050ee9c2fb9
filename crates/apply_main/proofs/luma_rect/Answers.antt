-- `apply_main::luma_rect` meets its contract: the rule is a box of rows, and each of its edges is worked out by a call.
-- Assumes nothing.
use native.Mathlib.Omega.{arith}
use mathlib.Core.Path.{◌∙◌}
use Rattle.lent.specs.Paint.{painted, box, up_to}
use Rattle.lent.specs.Samples.{sample}
use Rattle.picture.specs.Sizes.{stride_of, rows_of}
use Rattle.apply_main.specs.Main.{main_luma}
use Rattle.apply_main.proofs.Main.{rows_ask}
use Rattle.apply_main.proofs.RectRows.{box_rows_empty}
use Rattle.apply_main.proofs.luma_rect.Goals as goal

pub luma_rows-requires : goal.luma_rows-requires
luma_rows-requires c = rows_ask c.args.size c.luma.ensures c.requires (omega (arith, c.least-below.ensures)) (omega arith) (omega (arith, c.luma_right-right.ensures)) (omega (arith, c.luma_right-right.ensures))

pub shape_of-y : goal.shape_of-y
shape_of-y c = c.luma_rows.auto.y

pub returns-then-left-right : goal.returns-then-left-right
unfolding main_luma
returns-then-left-right c =
    let a = c.args in
    c.luma_rows.ensures
    ∙ (λ i. painted (stride_of a.size) (rows_of a.size) (up_to (box a.rect.top (c.least-below.ensures i) (c.luma_left-left.ensures i) (c.luma_right-right.ensures i)) (c.luma.ensures i).height) (sample a.vy.now (c.luma.ensures i).stride) a.y.now)

pub returns-else-left-right : goal.returns-else-left-right
unfolding main_luma
returns-else-left-right c = box_rows_empty _ _ _ _ _ _ _ _ _ (omega (arith, c.luma_right-right.ensures, c.luma_left-left.ensures))
