-- The apply calls answer a number alone over the boundary: their count is always 0, so nothing is lost (`number_alone`).
--
--   HaythawApplyMainViewOutcome z w rects vy vu vv y u v m    how `haythaw_apply_main_view` ends: the number, the picture's planes and its map
--   HaythawApplyAuxiliaryOutcome t z w rects vy vu vv y u v m the same of `haythaw_apply_auxiliary_v1`, `_v2`, `_v2_32` and `_v2_exact`,
--                                                             t being the layout, V2's with the W of its rule
use Rattle.std.specs.Prelude.{ℕ, List}
use Rattle.lent.specs.Outcome.{Outcome}
use Rattle.picture.specs.declared.Size.{Size}
use Rattle.view.specs.declared.View.{View}
use Rattle.layout.specs.declared.Layout.{Layout}
use Rattle.map_apply.specs.Calls.{lent_map_number_of, map_main_buffers_of, map_auxiliary_buffers_of}

abbrev pub HaythawApplyMainViewOutcome : Size → View → List ℕ → List ℕ → List ℕ → List ℕ → List ℕ → List ℕ → List ℕ → List ℕ → ℕ → List (List ℕ) → Type 0
HaythawApplyMainViewOutcome z w rects vy vu vv y u v m =
    let n = lent_map_number_of z w rects vy vu vv y u v m in
    Outcome n (map_main_buffers_of n z w rects vy vu vv y u v m)

abbrev pub HaythawApplyAuxiliaryOutcome : Layout → Size → View → List ℕ → List ℕ → List ℕ → List ℕ → List ℕ → List ℕ → List ℕ → List ℕ → ℕ → List (List ℕ) → Type 0
HaythawApplyAuxiliaryOutcome t z w rects vy vu vv y u v m =
    let n = lent_map_number_of z w rects vy vu vv y u v m in
    Outcome n (map_auxiliary_buffers_of n t z w rects vy vu vv y u v m)
