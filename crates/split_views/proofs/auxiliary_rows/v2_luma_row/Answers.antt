-- `split_views::auxiliary_rows::v2_luma_row` meets its contract: the first half holds the odd columns of U, the second those of V.
-- Assumes nothing.
use Prim.Native.Nat.{◌/◌}
use native.Mathlib.Nat.{zero-add}
use native.Mathlib.Omega.{arith}
use mathlib.Core.Path.{ap, ◌∙◌}
use Rattle.layout.specs.Maps.{PY}
use Rattle.layout.specs.declared.Chroma.TheVariants.{CU, CV}
use Rattle.layout.specs.declared.Layout.TheVariants.{V2}
use Rattle.split_views.specs.Views.{auxiliary_sample}
use Rattle.split_rows.proofs.Rows.{two_parts}
use Rattle.split_views.proofs.Spots.{v2_luma_half}
use Rattle.split_views.proofs.auxiliary_rows.v2_luma_row.Goals as goal

pub returns : goal.returns
returns c =
    let a = c.args in
    let auxiliary = v2_luma_half a.stride a.u.now a.v.now a.wide in
    let four = c.requires.wide_enough.fours in
    two_parts a.out.now c.picked_wide.new.out c.picked_wide-2.new.out (a.wide / 2) a.wide _ _ (auxiliary_sample (V2 a.wide) a.stride a.u.now a.v.now PY a.row) c.requires.out_len (omega arith)
    c.picked_wide.ensures c.picked_wide-2.ensures
    (λ j h. auxiliary CU a.row j h ∙ ap (auxiliary_sample (V2 a.wide) a.stride a.u.now a.v.now PY a.row) (zero-add j))
    (λ j h. auxiliary CV a.row j (omega (arith, h, four)))
