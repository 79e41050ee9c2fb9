-- A few checks by hand, each computed over the definitions. Assumes nothing.
use Prim.Native.Nat.{ℕ}
use mathlib.Core.Path.{◌≡◌, refl}
use mathlib.Core.List.{[]}
use Rattle.lent.specs.Counts.{first_where}
use Rattle.picture.specs.declared.Size.{Size}
use Rattle.picture.specs.Sizes.{planes_short}
use Rattle.layout.specs.declared.Way.TheVariants.{AsV1, AsV2}
use Rattle.layout.specs.declared.WidthRule.TheVariants.{To16, To32}
use Rattle.view.specs.declared.View.{View}
use Rattle.view.specs.View.{narrow, plane_short}
use Rattle.split.specs.Number.{too_large}
use Rattle.split_views.specs.Views.{Planes, planes}
use Rattle.check_pair.specs.declared.Verdict.TheVariants.{Same, Sizes}
use Rattle.check_pair.specs.Number.{check_number_of, sizes_agree}
use Rattle.check_pair.specs.Verdict.{first_in, plane_verdict_of, view_verdict_of, pair_verdict_of}
use Rattle.check_pair.specs.Checked.{answered_of, refused_with, checked_of}

abbrev size : ℕ → ℕ → Size
size w h = record { width = w; height = h }

abbrev view : ℕ → ℕ → ℕ → ℕ → View
view w h l c = record { width = w; height = h; luma_stride = l; chroma_stride = c }

abbrev none : Planes
none = planes [] [] []

-- nothing is the split of nothing
pub nothing_is_yes : checked_of AsV1 (size 0 0) none (view 0 0 0 0) none (view 0 0 0 0) none ≡ answered_of Same
unfolding checked_of check_number_of planes_short too_large narrow plane_short pair_verdict_of sizes_agree view_verdict_of plane_verdict_of first_in first_where
nothing_is_yes = refl

-- strides are no sizes
pub strides_no_sizes : checked_of (AsV2 To16) (size 0 0) none (view 0 0 7 5) none (view 0 0 0 0) none ≡ answered_of Same
unfolding checked_of check_number_of planes_short too_large narrow plane_short pair_verdict_of sizes_agree view_verdict_of plane_verdict_of first_in first_where
strides_no_sizes = refl

-- a view of one row is not the split of a picture of none
pub sizes_are_no : checked_of AsV1 (size 0 0) none (view 0 0 0 0) none (view 0 1 0 0) none ≡ answered_of Sizes
unfolding checked_of check_number_of planes_short too_large narrow plane_short pair_verdict_of sizes_agree
sizes_are_no = refl

-- by the 32 rule the views of a picture of 16 columns are 32 wide, and not 16
pub wide_as_the_stride : checked_of (AsV2 To32) (size 16 0) none (view 16 0 16 8) none (view 32 0 32 16) none ≡ answered_of Sizes
unfolding checked_of check_number_of planes_short too_large narrow plane_short pair_verdict_of sizes_agree
wide_as_the_stride = refl

-- 65,520 columns are not too many, 65,521 are, and 65,505 by the 32 rule
pub widest : check_number_of AsV1 (size 65520 0) (record { y = 0; u = 0; v = 0 }) (view 0 0 0 0) (record { y = 0; u = 0; v = 0 }) (view 0 0 0 0) (record { y = 0; u = 0; v = 0 }) ≡ 0
unfolding check_number_of planes_short too_large narrow plane_short
widest = refl

pub too_wide : checked_of AsV1 (size 65521 0) none (view 1 0 0 0) none (view 1 0 0 0) none ≡ refused_with 5
unfolding checked_of check_number_of planes_short too_large
too_wide = refl

pub too_wide_32 : checked_of (AsV2 To32) (size 65505 0) none (view 1 0 0 0) none (view 1 0 0 0) none ≡ refused_with 5
unfolding checked_of check_number_of planes_short too_large
too_wide_32 = refl

-- the main view's 4 comes before the auxiliary view's 3
pub main_first : checked_of AsV1 (size 0 0) none (view 0 1 1 0) none (view 1 0 0 0) none ≡ refused_with 4
unfolding checked_of check_number_of planes_short too_large narrow plane_short
main_first = refl
