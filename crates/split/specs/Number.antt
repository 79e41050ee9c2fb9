-- The number of a split and its answer (R22, R80, R83 to R85), from the way, the size and the lengths alone.
--
--   split_layout_of t z        the layout in which a picture of the size z that is sent this way is split
--   split_wide_of t z          how wide both views are: W by V2's rule, the stride for V1
--   too_large W z             5: stride or rows is above 65,535, or W is
--   widest_of t               the widest picture that splits this way, as law large_exactly has it
--   view_short W z n          6, of one view with planes of the lengths n: a plane is shorter than what would be written
--   split_number_of t z p m a  the number: 1, 5, 6 or 0; p, m and a are the lengths of the picture's, the main and the auxiliary view's planes
--   split_answer_of t z n      the answer with the number n: both views are of W by rows, with luma stride W and chroma stride half of it;
--                            a refusal has no sizes
use Rattle.std.specs.Prelude.{ℕ, ◌/◌, Bool, cond, ◌||◌, [], ◌∷◌, ltb, eqb}
use Rattle.lent.specs.Refusal.{refusal}
use Rattle.lent.specs.Sizes.{too_short}
use Rattle.picture.specs.declared.Size.{Size}
use Rattle.picture.specs.Sizes.{stride_of, rows_of, planes_short}
use Rattle.layout.specs.Maps.{layout_of, view_wide_of}
use Rattle.layout.specs.declared.Layout.{Layout}
use Rattle.layout.specs.declared.Way.{Way}
use Rattle.layout.specs.declared.Way.TheVariants.{AsV1, AsV2}
use Rattle.layout.specs.declared.WidthRule.TheVariants.{To16, To32}
use Rattle.split.specs.declared.number.PlaneLengths.{PlaneLengths}
use Rattle.split.specs.declared.number.Views.{Views}

abbrev pub split_layout_of : Way → Size → Layout
split_layout_of t z = layout_of t z.width (stride_of z)

abbrev pub split_wide_of : Way → Size → ℕ
split_wide_of t z = view_wide_of (split_layout_of t z) (stride_of z)

-- "split gives 5 also when W is above 65,535"
unfoldable pub too_large : ℕ → Size → Bool
too_large W z = ltb 65535 (stride_of z) || ltb 65535 (rows_of z) || ltb 65535 W

abbrev pub widest_of : Way → ℕ
widest_of AsV1 = 65520
widest_of (AsV2 To16) = 65520
widest_of (AsV2 To32) = 65504

unfoldable pub view_short : ℕ → Size → PlaneLengths → Bool
view_short W z n =
    too_short W (rows_of z) n.y
    || too_short (W / 2) (rows_of z / 2) n.u
    || too_short (W / 2) (rows_of z / 2) n.v

unfoldable pub split_number_of : Way → Size → PlaneLengths → PlaneLengths → PlaneLengths → ℕ
split_number_of t z p m a =
    let W = split_wide_of t z in
    refusal ((planes_short z p.y p.u p.v, 1) ∷ (too_large W z, 5) ∷ (view_short W z m || view_short W z a, 6) ∷ [])

abbrev pub split_answer_of : Way → Size → ℕ → Views
split_answer_of t z n = record {
  number = n;
  width = cond (eqb n 0) (split_wide_of t z) 0;
  height = cond (eqb n 0) (rows_of z) 0;
  luma_stride = cond (eqb n 0) (split_wide_of t z) 0;
  chroma_stride = cond (eqb n 0) (split_wide_of t z / 2) 0;
}
