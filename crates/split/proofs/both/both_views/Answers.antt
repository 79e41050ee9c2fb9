-- `split::both::both_views` meets its contract: one view after the other.
-- Assumes nothing.
use mathlib.Core.Path.{◌≡◌, refl}
use Prim.Native.Nat.{ℕ, ◌≤◌}
use mathlib.Core.List.{List}
use Rattle.layout.specs.Maps.{view_wide_of}
use Rattle.layout.specs.declared.Layout.{Layout}
use Rattle.split_views.specs.Views.{Planes, main_sample, auxiliary_sample, Written}
use Rattle.split_views.specs.Fits.{MacroblocksFit, WideEnough, Room}
use Rattle.split.proofs.Calls.{wide_enough}
use Rattle.split.proofs.both.both_views.Goals as goal

-- stride, rows, the views' width and the layout are those of the size and the way
module _ {stride stride' wide wide' rows rows' : ℕ} (e : stride ≡ stride') (f : wide ≡ wide') (g : rows ≡ rows') where
  main_asked : {y u v my mu mv : ℕ}
      → (MacroblocksFit y stride' rows' × (MacroblocksFit u stride' rows' × (MacroblocksFit v stride' rows' × ((stride' ≤ wide') × Room my mu mv wide' rows'))))
      → (MacroblocksFit y stride rows × (MacroblocksFit u stride rows × (MacroblocksFit v stride rows × ((stride ≤ wide) × Room my mu mv wide rows))))
  main_asked is = rw (e, f, g) is

  auxiliary_asked : {t t' : Layout} {u v ay au av : ℕ} → t ≡ t'
      → (MacroblocksFit u stride' rows' × (MacroblocksFit v stride' rows' × (WideEnough stride' wide' × ((wide' ≡ view_wide_of t' stride') × Room ay au av wide' rows'))))
      → (MacroblocksFit u stride rows × (MacroblocksFit v stride rows × (WideEnough stride wide × ((wide ≡ view_wide_of t stride) × Room ay au av wide rows))))
  auxiliary_asked h is = rw (e, f, g, h) is

  main_is : (p : Planes) {old new : Planes} → Written wide rows (main_sample stride p) old new → Written wide' rows' (main_sample stride' p) old new
  main_is p is = rw (e, f, g) at is

  auxiliary_is : {t t' : Layout} (u v : List ℕ) {old new : Planes} → t ≡ t' → Written wide rows (auxiliary_sample t stride u v) old new → Written wide' rows' (auxiliary_sample t' stride' u v) old new
  auxiliary_is u v h is = rw (e, f, g, h) at is

pub main_view-requires : goal.main_view-requires
main_view-requires c =
    let whole = main_asked c.stride-stride.ensures.0 c.view_width-wide.ensures c.rows-rows.ensures.0
    (c.requires.macroblocks_fit, (c.requires.macroblocks_fit_2, (c.requires.macroblocks_fit_3, ((wide_enough c.args.way c.args.size).enough, c.requires.room)))) in record { macroblocks_fit = whole.0; macroblocks_fit_2 = whole.1.0; macroblocks_fit_3 = whole.1.1.0; stride_le_wide = whole.1.1.1.0; room = whole.1.1.1.1 }

pub auxiliary_view-requires : goal.auxiliary_view-requires
auxiliary_view-requires c =
    let whole = auxiliary_asked c.stride-stride.ensures.0 c.view_width-wide.ensures c.rows-rows.ensures.0 c.split_layout-layout.ensures
    (c.requires.macroblocks_fit_2, (c.requires.macroblocks_fit_3, (wide_enough c.args.way c.args.size, (refl, c.requires.room_2)))) in record { macroblocks_fit = whole.0; macroblocks_fit_2 = whole.1.0; wide_enough = whole.1.1.0; wide_value = whole.1.1.1.0; room = whole.1.1.1.1 }

pub returns : goal.returns
returns c =
    let e = c.stride-stride.ensures.0 in
    let f = c.view_width-wide.ensures in
    let g = c.rows-rows.ensures.0 in
    record {
      written = main_is e f g _ c.main_view.ensures;
      written_2 = auxiliary_is e f g c.args.u.now c.args.v.now c.split_layout-layout.ensures c.auxiliary_view.ensures;
    }
