-- The strict apply calls answer a number alone over the boundary, as those of Apply.antt do.
--
--   HaythawApplyMainViewStrictOutcome z w rects vy vu vv y u v m     how `haythaw_apply_main_view_strict` ends: the number, the picture's planes
--                                                                    and its map
--   HaythawApplyAuxiliaryStrictOutcome t z w rects vy vu vv y u v m  the same of `haythaw_apply_auxiliary_v1_strict`, `_v2_strict`, `_v2_32_strict` and
--                                                                    `_v2_exact_strict`, t being the layout, V2's with the W of its rule
use Rattle.std.specs.Prelude.{ℕ, List}
use Rattle.lent.specs.Outcome.{Outcome}
use Rattle.picture.specs.declared.Size.{Size}
use Rattle.view.specs.declared.View.{View}
use Rattle.layout.specs.declared.Layout.{Layout}
use Rattle.map_apply.specs.Calls.{map_main_buffers_of, map_auxiliary_buffers_of}
use Rattle.strict.specs.Calls.{lent_strict_number_of}

abbrev pub HaythawApplyMainViewStrictOutcome : Size → View → List ℕ → List ℕ → List ℕ → List ℕ → List ℕ → List ℕ → List ℕ → List ℕ → ℕ → List (List ℕ) → Type 0
HaythawApplyMainViewStrictOutcome z w rects vy vu vv y u v m =
    let n = lent_strict_number_of z w rects vy vu vv y u v m in
    Outcome n (map_main_buffers_of n z w rects vy vu vv y u v m)

abbrev pub HaythawApplyAuxiliaryStrictOutcome : Layout → Size → View → List ℕ → List ℕ → List ℕ → List ℕ → List ℕ → List ℕ → List ℕ → List ℕ → ℕ → List (List ℕ) → Type 0
HaythawApplyAuxiliaryStrictOutcome t z w rects vy vu vv y u v m =
    let n = lent_strict_number_of z w rects vy vu vv y u v m in
    Outcome n (map_auxiliary_buffers_of n t z w rects vy vu vv y u v m)
