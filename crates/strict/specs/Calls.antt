-- How the strict apply calls end (R22, R86): as those of map_apply, with 12 between 7 and 3.
--
--   strict_number_of z w rects ny nu nv nm my mu mv     the number, 0 or the first refusal: 1, which covers the map, 7, 12, 3, 4. z is the picture's size,
--                           ny, nu and nv are its planes' lengths and nm its map's; w is the view and my, mu, mv its planes' lengths
--   lent_strict_number_of z w rects vy vu vv y u v m     the same of the lent lists themselves
--   StrictMainOutcome ...   how the strict main view's call ends, refusals included
--   StrictAuxiliaryOutcome t ...      the same of the auxiliary view's, t being the layout
use Rattle.std.specs.Prelude.{ℕ, List, [], ◌∷◌, length}
use Rattle.lent.specs.declared.Answer.{Answer}
use Rattle.lent.specs.Outcome.{Outcome, answer_of}
use Rattle.lent.specs.Refusal.{refusal}
use Rattle.picture.specs.declared.Size.{Size}
use Rattle.view.specs.declared.View.{View}
use Rattle.view.specs.View.{narrow, plane_short}
use Rattle.layout.specs.declared.Layout.{Layout}
use Rattle.rects.specs.Number.{not_fours}
use Rattle.map.specs.Map.{picture_short}
use Rattle.map_apply.specs.Calls.{map_main_buffers_of, map_auxiliary_buffers_of}
use Rattle.strict.specs.Sound.{unsound}

unfoldable pub strict_number_of : Size → View → List ℕ → ℕ → ℕ → ℕ → ℕ → ℕ → ℕ → ℕ → ℕ
strict_number_of z w rects ny nu nv nm my mu mv =
    refusal ((picture_short z ny nu nv nm, 1) ∷ (not_fours (length rects), 7) ∷ (unsound z rects, 12) ∷ (narrow w, 3) ∷ (plane_short w my mu mv, 4) ∷ [])

abbrev pub lent_strict_number_of : Size → View → List ℕ → List ℕ → List ℕ → List ℕ → List ℕ → List ℕ → List ℕ → List ℕ → ℕ
lent_strict_number_of z w rects vy vu vv y u v m =
    strict_number_of z w rects (length y) (length u) (length v) (length m) (length vy) (length vu) (length vv)

abbrev pub StrictMainOutcome : Size → View → List ℕ → List ℕ → List ℕ → List ℕ → List ℕ → List ℕ → List ℕ → List ℕ → Answer → List (List ℕ) → Type 0
StrictMainOutcome z w rects vy vu vv y u v m =
    let n = lent_strict_number_of z w rects vy vu vv y u v m in
    Outcome (answer_of n 0) (map_main_buffers_of n z w rects vy vu vv y u v m)

abbrev pub StrictAuxiliaryOutcome : Layout → Size → View → List ℕ → List ℕ → List ℕ → List ℕ → List ℕ → List ℕ → List ℕ → List ℕ → Answer → List (List ℕ) → Type 0
StrictAuxiliaryOutcome t z w rects vy vu vv y u v m =
    let n = lent_strict_number_of z w rects vy vu vv y u v m in
    Outcome (answer_of n 0) (map_auxiliary_buffers_of n t z w rects vy vu vv y u v m)
