-- `split_views::auxiliary_rows::v2_chroma_row` meets its contract: the first half holds every fourth column of U, the second those of V.
-- Assumes nothing.
use Prim.Native.Nat.{◌/◌}
use native.Mathlib.Nat.{zero-add}
use native.Mathlib.Omega.{arith}
use mathlib.Core.Path.{ap, ◌∙◌}
use Rattle.layout.specs.declared.Chroma.TheVariants.{CU, CV}
use Rattle.split_views.specs.Views.{v2_chroma_sample}
use Rattle.split_rows.proofs.Rows.{two_parts}
use Rattle.split_views.proofs.Spots.{v2_chroma_half}
use Rattle.split_views.proofs.auxiliary_rows.v2_chroma_row.Goals as goal

pub returns : goal.returns
returns c =
    let a = c.args in
    let held = v2_chroma_half a.stride a.u.now a.v.now a.wide in
    let four = c.requires.wide_enough.fours in
    two_parts a.out.now c.picked_wide.new.out c.picked_wide-2.new.out (a.wide / 4) (a.wide / 2) _ _ (v2_chroma_sample a.wide a.stride a.u.now a.v.now a.first a.row) (omega (arith, c.requires.out_value)) (omega arith)
    c.picked_wide.ensures c.picked_wide-2.ensures
    (λ j h. held CU a.first a.row j h ∙ ap (v2_chroma_sample a.wide a.stride a.u.now a.v.now a.first a.row) (zero-add j))
    (λ j h. held CV a.first a.row j (omega (arith, h, four)))
