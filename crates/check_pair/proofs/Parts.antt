-- What a view's verdict asks of the picture, where the view has the sizes of the split's.
-- Assumes nothing.
use Prim.Native.Nat.{ℕ, ◌*◌, ◌≤◌}
use native.Mathlib.Omega.{arith}
use mathlib.Core.Path.{◌≡◌, sym, subst}
use mathlib.Core.Bool.{true, false}
use lib.Dec.{eqb}
use lib.ListN.{length}
use borrow.Author.Tests.{eqb-true}
use Rattle.lent.proofs.Bools.{both_left, both_right}
use Rattle.picture.specs.declared.Size.{Size}
use Rattle.picture.specs.Sizes.{stride_of, rows_of, planes_short}
use Rattle.picture.proofs.Sizes.{planes_fit}
use Rattle.layout.specs.declared.Layout.{Layout}
use Rattle.layout.specs.declared.Way.{Way}
use Rattle.view.specs.declared.View.{View}
use Rattle.split.specs.Number.{split_layout_of, split_wide_of, too_large, widest_of}
use Rattle.split.proofs.Calls.{wide_enough}
use Rattle.split.proofs.Exactly.{small_exactly, sides_fit}
use Rattle.split_views.specs.Fits.{MacroblocksFit, WideEnough}
use Rattle.check_pair.specs.Number.{sizes_agree}
use Rattle.check_pair.specs.declared.Source.{Source}
use Rattle.check_pair.specs.Rows.{ViewWhole, EachPlane}

-- ---- what the walk over a view asks, of one that has the sizes of the split's

pub view_of_split : (t : Way) (z : Size) (w : View) {m stride : ℕ} {layout : Layout} → layout ≡ split_layout_of t z → stride ≡ stride_of z
    → rows_of z * stride_of z ≤ m → (z.width ≤ widest_of t) × (z.height ≤ 65520)
    → w.width ≡ split_wide_of t z → w.height ≡ rows_of z → ViewWhole layout w m stride
view_of_split t z w {m} {stride} laid strided fits small e f =
    let sides = sides_fit t z ((small_exactly t z).1 small) in
    subst (λ (l : Layout). ViewWhole l w m stride) (sym laid)
    (subst (ViewWhole (split_layout_of t z) w m) (sym strided)
    (record {
      picture = subst (MacroblocksFit m (stride_of z)) (sym f) (record { fits = fits; wide = omega arith; high = omega arith });
      room = subst (WideEnough (stride_of z)) (sym e) (wide_enough t z);
      wide = e;
      high = omega (arith, sides.1);
      broad = omega (arith, sides.0);
    }))

-- a view that has these sizes, beside a picture that splits
pub source_whole : (t : Way) (z : Size) (w : View) (f : Source) {layout : Layout} → layout ≡ split_layout_of t z → f.stride ≡ stride_of z
    → planes_short z (length f.y.now) (length f.u.now) (length f.v.now) ≡ false → too_large (split_wide_of t z) z ≡ false
    → sizes_agree t z w ≡ true → EachPlane f (λ m. ViewWhole layout w m f.stride)
unfolding sizes_agree
source_whole t z w f laid strided long small agree =
    let fit = planes_fit z _ _ _ long in
    let low = (small_exactly t z).0 small in
    let wide = eqb-true _ _ (both_left (eqb w.width (split_wide_of t z)) _ agree) in
    let high = eqb-true _ _ (both_right (eqb w.width (split_wide_of t z)) _ agree) in
    record {
      y = view_of_split t z w laid strided fit.y_fits low wide high;
      u = view_of_split t z w laid strided fit.u_fits low wide high;
      v = view_of_split t z w laid strided fit.v_fits low wide high;
    }
