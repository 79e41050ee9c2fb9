-- A view: its sizes, its planes, and the number that it is answered with (R5, R22).
--
--   View                      a view's width, height, luma stride and chroma stride; its planes y, u and v are lent beside it
--   Plane                     the stride, width and height of one plane
--   luma_of w, chroma_of w      those of the luma plane, and of both chroma planes: chroma width and height are the halves, rounded up
--   narrow w                  3: a view's luma stride is below its width, or chroma stride below its chroma width
--   plane_short w ny nu nv     4: a view's plane is shorter than its stride x its plane height; the planes are ny, nu and nv bytes long.
--                             The products are those of ℕ, so one that is too large for the machine word counts as too long
--   view_number_of w ny nu nv   the number of a view made or read: 3, 4, or 0
--   PlaneFits p n             the stride is not below the width, and n bytes hold all rows
--   ViewFits w ny nu nv       what 0 says, as plain inequalities (`accepted_fits`)
use Rattle.std.specs.Prelude.{ℕ, ◌*◌, ◌≤◌, Bool, ◌||◌, [], ◌∷◌, ltb}
use Rattle.lent.specs.Sizes.{half_up, too_short}
use Rattle.lent.specs.Refusal.{refusal}
use Rattle.view.specs.declared.View.{View}
use Rattle.view.specs.declared.Plane.{Plane}

abbrev pub luma_of : View → Plane
luma_of w = record { stride = w.luma_stride; width = w.width; height = w.height }

abbrev pub chroma_of : View → Plane
chroma_of w = record { stride = w.chroma_stride; width = half_up w.width; height = half_up w.height }

unfoldable pub narrow : View → Bool
narrow w = ltb w.luma_stride w.width || ltb w.chroma_stride (half_up w.width)

unfoldable pub plane_short : View → ℕ → ℕ → ℕ → Bool
plane_short w ny nu nv =
    too_short w.luma_stride w.height ny
    || too_short w.chroma_stride (half_up w.height) nu
    || too_short w.chroma_stride (half_up w.height) nv

unfoldable pub view_number_of : View → ℕ → ℕ → ℕ → ℕ
view_number_of w ny nu nv = refusal ((narrow w, 3) ∷ (plane_short w ny nu nv, 4) ∷ [])

pub record PlaneFits (p : Plane) (n : ℕ) : Type 0 where
  pub wide : p.width ≤ p.stride
  pub long : p.height * p.stride ≤ n

pub record ViewFits (w : View) (ny nu nv : ℕ) : Type 0 where
  pub luma_wide : w.width ≤ w.luma_stride
  pub chroma_wide : half_up w.width ≤ w.chroma_stride
  pub y_long : w.height * w.luma_stride ≤ ny
  pub u_long : half_up w.height * w.chroma_stride ≤ nu
  pub v_long : half_up w.height * w.chroma_stride ≤ nv
