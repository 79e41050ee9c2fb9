-- The auxiliary views (R62, R65 to R71).
--
--   auxiliary_in t w a r c               row r, column c lies in the widened area a, and the auxiliary view w of the layout t gives both U and V
--                                 there (layout's `fed`: the main view leaves the sample out, and the pair exists)
--   auxiliary_rule t z w                 the same of a rectangle's widened area, as a rule of `rects`
--   auxiliary_after t k z w rects vy vu vv plane      the chroma plane k after an accepted call: each sample that some rectangle takes is the view's
--                                 sample at its spot (`auxiliary_source`), and every other byte is as before
--   ApplyAuxiliaryViewOutcome ...       how the call ends, refusals included: its number is that of the main view's call on the same buffers
--                                 (`lent_number_of`: 1, 7, 3, 4), and Y's bytes are as they were in every case
use Rattle.std.specs.Prelude.{ℕ, Bool, ◌&&◌, List, [], ◌∷◌}
use Rattle.lent.specs.declared.Answer.{Answer}
use Rattle.lent.specs.Outcome.{Outcome, answer_of, lent_after}
use Rattle.lent.specs.Paint.{painted}
use Rattle.picture.specs.declared.Size.{Size}
use Rattle.picture.specs.Sizes.{stride_of, rows_of}
use Rattle.view.specs.declared.View.{View}
use Rattle.layout.specs.declared.Chroma.{Chroma}
use Rattle.layout.specs.declared.Chroma.TheVariants.{CU, CV}
use Rattle.layout.specs.declared.Layout.{Layout}
use Rattle.layout.specs.Exists.{fed}
use Rattle.rects.specs.declared.Area.{Area}
use Rattle.rects.specs.Rects.{Rule, taken, chroma_block_area_of, in_area}
use Rattle.rects.specs.Number.{lent_number_of}
use Rattle.apply_auxiliary_rows.specs.Rows.{auxiliary_source}

unfoldable pub auxiliary_in : Layout → View → Area → ℕ → ℕ → Bool
auxiliary_in t w a r c = in_area a r c && fed t w.width w.height r c

abbrev pub auxiliary_rule : Layout → Size → View → Rule
auxiliary_rule t z w left top right bottom = auxiliary_in t w (chroma_block_area_of z left top right bottom)

abbrev pub auxiliary_after : Layout → Chroma → Size → View → List ℕ → List ℕ → List ℕ → List ℕ → List ℕ → List ℕ
auxiliary_after t k z w rects vy vu vv plane = painted (stride_of z) (rows_of z) (taken (auxiliary_rule t z w) rects) (auxiliary_source t k w vy vu vv) plane

-- the three planes after a call that answers the number n
abbrev pub auxiliary_buffers_of : ℕ → Layout → Size → View → List ℕ → List ℕ → List ℕ → List ℕ → List ℕ → List ℕ → List ℕ → List (List ℕ)
auxiliary_buffers_of n t z w rects vy vu vv y u v =
    y ∷ lent_after n u (auxiliary_after t CU z w rects vy vu vv u) ∷ lent_after n v (auxiliary_after t CV z w rects vy vu vv v) ∷ []

abbrev pub ApplyAuxiliaryViewOutcome : Layout → Size → View → List ℕ → List ℕ → List ℕ → List ℕ → List ℕ → List ℕ → List ℕ → Answer → List (List ℕ) → Type 0
ApplyAuxiliaryViewOutcome t z w rects vy vu vv y u v =
    let n = lent_number_of z w rects vy vu vv y u v in
    Outcome (answer_of n 0) (auxiliary_buffers_of n t z w rects vy vu vv y u v)
