-- The number of an apply call: main view or auxiliary (R22: 1, 7, 3, 4).
--
--   not_fours nr       7: the list's length is not a multiple of 4
--   apply_number_of z w ny nu nv nr my mu mv     the number that the call answers, 0 or the first refusal in that order. z is the picture's
--                     size and ny, nu, nv its planes' lengths; nr is the list's length; w is the view and my, mu, mv its planes' lengths
--   lent_number_of z w rects vy vu vv y u v      the same of the lent lists themselves
--   ApplyAccepted z w ny nu nv my mu mv             what 0 says, as plain inequalities (`apply_fits`)
use Rattle.std.specs.Prelude.{ℕ, ◌%◌, Bool, not, List, [], ◌∷◌, eqb, length}
use Rattle.lent.specs.Refusal.{refusal}
use Rattle.picture.specs.declared.Size.{Size}
use Rattle.picture.specs.Sizes.{planes_short, PlanesFit}
use Rattle.view.specs.declared.View.{View}
use Rattle.view.specs.View.{narrow, plane_short, ViewFits}

abbrev pub not_fours : ℕ → Bool
not_fours nr = not (eqb (nr % 4) 0)

unfoldable pub apply_number_of : Size → View → ℕ → ℕ → ℕ → ℕ → ℕ → ℕ → ℕ → ℕ
apply_number_of z w ny nu nv nr my mu mv =
    refusal ((planes_short z ny nu nv, 1) ∷ (not_fours nr, 7) ∷ (narrow w, 3) ∷ (plane_short w my mu mv, 4) ∷ [])

abbrev pub lent_number_of : Size → View → List ℕ → List ℕ → List ℕ → List ℕ → List ℕ → List ℕ → List ℕ → ℕ
lent_number_of z w rects vy vu vv y u v = apply_number_of z w (length y) (length u) (length v) (length rects) (length vy) (length vu) (length vv)

pub record ApplyAccepted (z : Size) (w : View) (ny nu nv my mu mv : ℕ) : Type 0 where
  pub planes : PlanesFit z ny nu nv
  pub view : ViewFits w my mu mv
