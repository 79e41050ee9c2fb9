-- The main view (R62 to R64). vw and vh are the view's width and height.
--
--   main_luma z w left top right bottom r c      "Luma: row from top to below min(bottom, height) and below vh; col from left to below the
--                                               least of right, area right and vw"
--   main_chroma z w left top right bottom r c    "Main: chroma at (row, col) in the area, row < vh, col < vw ..."
--   halved plane stride r c                     "... from U and V at row/2, col/2": halves are floor (said in Rows.antt, passed on here)
--   luma_after z w rects vy y                    Y after an accepted call: each sample that some rectangle takes comes from the view's
--                                               luma at its own row and column, and every other byte is as before
--   chroma_after z w rects samples plane         the same of U or V, with that plane of the view
--   ApplyMainViewOutcome ...                    how the call ends, refusals included; its number, `lent_number_of`, is said in rects and passed on here
use Rattle.std.specs.Prelude.{ℕ, min, ◌&&◌, List, [], ◌∷◌, ltb}
use Rattle.lent.specs.declared.Answer.{Answer}
use Rattle.lent.specs.Outcome.{Outcome, answer_of, lent_after}
use Rattle.lent.specs.Paint.{painted, box, up_to}
use Rattle.lent.specs.Samples.{sample}
use Rattle.picture.specs.declared.Size.{Size}
use Rattle.picture.specs.Sizes.{stride_of, rows_of}
use Rattle.view.specs.declared.View.{View}
use Rattle.rects.specs.Rects.{Rule, taken, chroma_block_area_of, area}
pub use Rattle.rects.specs.Number.{lent_number_of}
unfoldable pub use Rattle.apply_main.specs.Rows.{halved}

unfoldable pub main_luma : Size → View → Rule
main_luma z w left top right bottom =
    up_to (box top (min bottom z.height) left (min (min right (chroma_block_area_of z left top right bottom).right) w.width)) w.height

unfoldable pub main_chroma : Size → View → Rule
main_chroma z w left top right bottom r c = area z left top right bottom r c && ltb r w.height && ltb c w.width

abbrev pub luma_after : Size → View → List ℕ → List ℕ → List ℕ → List ℕ
luma_after z w rects vy y = painted (stride_of z) (rows_of z) (taken (main_luma z w) rects) (sample vy w.luma_stride) y

abbrev pub chroma_after : Size → View → List ℕ → List ℕ → List ℕ → List ℕ
chroma_after z w rects samples plane = painted (stride_of z) (rows_of z) (taken (main_chroma z w) rects) (halved samples w.chroma_stride) plane

-- the three planes after a call that answers the number n
abbrev pub main_buffers_of : ℕ → Size → View → List ℕ → List ℕ → List ℕ → List ℕ → List ℕ → List ℕ → List ℕ → List (List ℕ)
main_buffers_of n z w rects vy vu vv y u v =
    lent_after n y (luma_after z w rects vy y) ∷ lent_after n u (chroma_after z w rects vu u) ∷ lent_after n v (chroma_after z w rects vv v) ∷ []

abbrev pub ApplyMainViewOutcome : Size → View → List ℕ → List ℕ → List ℕ → List ℕ → List ℕ → List ℕ → List ℕ → Answer → List (List ℕ) → Type 0
ApplyMainViewOutcome z w rects vy vu vv y u v =
    let n = lent_number_of z w rects vy vu vv y u v in
    Outcome (answer_of n 0) (main_buffers_of n z w rects vy vu vv y u v)
