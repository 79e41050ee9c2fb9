-- What a V2 call was before there were rules for W ("The 16 rule is as before"), written out with no word of a layout, a way or a rule.
--
--   maps_before w                  V2's maps, with W the view's width rounded up to 16
--   rule_before z w                the samples that a rectangle takes: those of its widened area that the view gives
--   plane_before k z w rects vy vu vv plane      the chroma plane k after an accepted call
--   ApplyBefore ...               how the call ended, refusals included
use Rattle.std.specs.Prelude.{ℕ, ◌&&◌, List, [], ◌∷◌}
use Rattle.lent.specs.declared.Answer.{Answer}
use Rattle.lent.specs.Outcome.{Outcome, answer_of, lent_after}
use Rattle.lent.specs.Paint.{painted}
use Rattle.lent.specs.Sizes.{round_up}
use Rattle.picture.specs.declared.Size.{Size}
use Rattle.picture.specs.Sizes.{stride_of, rows_of}
use Rattle.view.specs.declared.View.{View}
use Rattle.layout.specs.declared.Chroma.{Chroma}
use Rattle.layout.specs.declared.Chroma.TheVariants.{CU, CV}
use Rattle.layout.specs.Maps.{Maps, maps_v2, place}
use Rattle.layout.specs.Exists.{gives}
use Rattle.rects.specs.Rects.{Rule, taken, chroma_block_area_of, in_area}
use Rattle.rects.specs.Number.{lent_number_of}
use Rattle.apply_auxiliary_rows.specs.Rows.{view_sample}

abbrev pub maps_before : View → Maps
maps_before w = maps_v2 (round_up 16 w.width)

abbrev pub rule_before : Size → View → Rule
rule_before z w left top right bottom r c = in_area (chroma_block_area_of z left top right bottom) r c && gives (maps_before w) w.width w.height r c

abbrev pub plane_before : Chroma → Size → View → List ℕ → List ℕ → List ℕ → List ℕ → List ℕ → List ℕ
plane_before k z w rects vy vu vv plane =
    painted (stride_of z) (rows_of z) (taken (rule_before z w) rects) (λ r c. view_sample w vy vu vv ((maps_before w).spot (place k r c))) plane

abbrev pub ApplyBefore : Size → View → List ℕ → List ℕ → List ℕ → List ℕ → List ℕ → List ℕ → List ℕ → Answer → List (List ℕ) → Type 0
ApplyBefore z w rects vy vu vv y u v =
    let n = lent_number_of z w rects vy vu vv y u v in
    Outcome (answer_of n 0) (y ∷ lent_after n u (plane_before CU z w rects vy vu vv u) ∷ lent_after n v (plane_before CV z w rects vy vu vv v) ∷ [])
