-- How the apply calls end that are lent the map (R22, R75, R76): what they end in without it, and the map.
--
--   map_apply_number_of z w ny nu nv nm nr my mu mv      the number, 0 or the first refusal: 1, which covers the map, 7, 3, 4. nm is the map's length,
--                           the others are `apply_number_of`'s
--   lent_map_number_of z w rects vy vu vv y u v m        the same of the lent lists themselves
--   MapMainOutcome ...      how the main view's call ends, refusals included
--   MapAuxiliaryOutcome ... the same of the auxiliary view's
use Rattle.std.specs.Prelude.{ℕ, List, [], ◌∷◌, ◌++◌, length}
use Rattle.lent.specs.declared.Answer.{Answer}
use Rattle.lent.specs.Outcome.{Outcome, answer_of, lent_after}
use Rattle.lent.specs.Refusal.{refusal}
use Rattle.picture.specs.declared.Size.{Size}
use Rattle.view.specs.declared.View.{View}
use Rattle.view.specs.View.{narrow, plane_short}
use Rattle.layout.specs.declared.Layout.{Layout}
use Rattle.rects.specs.Number.{not_fours}
use Rattle.apply_main.specs.Main.{main_buffers_of}
use Rattle.apply_auxiliary.specs.Auxiliary.{auxiliary_buffers_of}
use Rattle.map.specs.Map.{picture_short}
use Rattle.map_apply.specs.Blocks.{map_after}
use Rattle.map_apply.specs.Blocks.Call.{Main, Auxiliary}

unfoldable pub map_apply_number_of : Size → View → ℕ → ℕ → ℕ → ℕ → ℕ → ℕ → ℕ → ℕ → ℕ
map_apply_number_of z w ny nu nv nm nr my mu mv =
    refusal ((picture_short z ny nu nv nm, 1) ∷ (not_fours nr, 7) ∷ (narrow w, 3) ∷ (plane_short w my mu mv, 4) ∷ [])

abbrev pub lent_map_number_of : Size → View → List ℕ → List ℕ → List ℕ → List ℕ → List ℕ → List ℕ → List ℕ → List ℕ → ℕ
lent_map_number_of z w rects vy vu vv y u v m =
    map_apply_number_of z w (length y) (length u) (length v) (length m) (length rects) (length vy) (length vu) (length vv)

-- the four buffers after a call that answers the number n
abbrev pub map_main_buffers_of : ℕ → Size → View → List ℕ → List ℕ → List ℕ → List ℕ → List ℕ → List ℕ → List ℕ → List ℕ → List (List ℕ)
map_main_buffers_of n z w rects vy vu vv y u v m = main_buffers_of n z w rects vy vu vv y u v ++ (lent_after n m (map_after z (Main w rects) m) ∷ [])

abbrev pub map_auxiliary_buffers_of : ℕ → Layout → Size → View → List ℕ → List ℕ → List ℕ → List ℕ → List ℕ → List ℕ → List ℕ → List ℕ → List (List ℕ)
map_auxiliary_buffers_of n t z w rects vy vu vv y u v m =
    auxiliary_buffers_of n t z w rects vy vu vv y u v ++ (lent_after n m (map_after z (Auxiliary t w rects) m) ∷ [])

abbrev pub MapMainOutcome : Size → View → List ℕ → List ℕ → List ℕ → List ℕ → List ℕ → List ℕ → List ℕ → List ℕ → Answer → List (List ℕ) → Type 0
MapMainOutcome z w rects vy vu vv y u v m =
    let n = lent_map_number_of z w rects vy vu vv y u v m in
    Outcome (answer_of n 0) (map_main_buffers_of n z w rects vy vu vv y u v m)

abbrev pub MapAuxiliaryOutcome : Layout → Size → View → List ℕ → List ℕ → List ℕ → List ℕ → List ℕ → List ℕ → List ℕ → List ℕ → Answer → List (List ℕ) → Type 0
MapAuxiliaryOutcome t z w rects vy vu vv y u v m =
    let n = lent_map_number_of z w rects vy vu vv y u v m in
    Outcome (answer_of n 0) (map_auxiliary_buffers_of n t z w rects vy vu vv y u v m)
