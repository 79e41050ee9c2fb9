-- The number of a check, and when the sizes of a view are those of the split's (R22, R88), from sizes and lengths alone.
--
--   check_number_of t z p w m x a   the number, 0 or the first refusal: 1, 5, then 3 and 4 of the main view w, then 3 and 4 of the auxiliary
--                          view x. p, m and a are the lengths of the planes of the picture, of the main view and of the auxiliary view
--   sizes_agree t z w       a view's width and height are those of both views of a split. Strides are not sizes
use Rattle.std.specs.Prelude.{ℕ, Bool, ◌&&◌, [], ◌∷◌, eqb}
use Rattle.lent.specs.Refusal.{refusal}
use Rattle.picture.specs.declared.Size.{Size}
use Rattle.picture.specs.Sizes.{rows_of, planes_short}
use Rattle.layout.specs.declared.Way.{Way}
use Rattle.view.specs.declared.View.{View}
use Rattle.view.specs.View.{narrow, plane_short}
use Rattle.split.specs.declared.number.PlaneLengths.{PlaneLengths}
use Rattle.split.specs.Number.{split_wide_of, too_large}

unfoldable pub check_number_of : Way → Size → PlaneLengths → View → PlaneLengths → View → PlaneLengths → ℕ
check_number_of t z p w m x a =
    refusal (
    (planes_short z p.y p.u p.v, 1)
    ∷ (too_large (split_wide_of t z) z, 5)
    ∷ (narrow w, 3)
    ∷ (plane_short w m.y m.u m.v, 4)
    ∷ (narrow x, 3)
    ∷ (plane_short x a.y a.u a.v, 4)
    ∷ []
    )

unfoldable pub sizes_agree : Way → Size → View → Bool
sizes_agree t z w = eqb w.width (split_wide_of t z) && eqb w.height (rows_of z)
