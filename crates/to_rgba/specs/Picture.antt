-- Picture to RGBA: its number, its counts and every byte of its output (R22, R50 to R52: "The
-- rectangle is clipped to the picture; an empty one writes nothing and answers 0"; R54).
--
--   Rect                   a rectangle: left, top, right and bottom, the last two exclusive
--   clipped_of a b n        how far it is from a to b, where the picture ends at n: 0 where nothing is left
--   across_of z q, down_of z q     columns and rows of the rectangle q, clipped to the picture of size z
--   to_rgba_count_of z q      bytes written: 4 x the clipped pixels
--   filtered_rows_of stride left top n h p     how many samples of the plane p the filter replaced, in h rows of n columns from row `top` and
--                          column `left` on; filtered_in z q p: in the rectangle q, clipped to the picture
--   pixels_of n count in-u in-v   the answer with the number n: in a refusal all counts are 0
--   to_rgba_number_of z count ny nu nv nout      1, then 6: a plane is shorter than stride x rows; the output, of nout bytes, is shorter than
--                          what would be written
--   to_rgba_of z y u v q out       the output after a call that is not refused: rows and columns of the picture from the rectangle's top
--                          and left on; bytes past the count stay
--   ToRgbaOutcome z y u v q out      how the call ends, refusals included
use Rattle.std.specs.Prelude.{ℕ, ◌+◌, ◌*◌, ◌-◌, min, cond, List, [], ◌∷◌, ltb, eqb, length}
use Rattle.lent.specs.Counts.{total}
use Rattle.lent.specs.Outcome.{Outcome, lent_after}
use Rattle.lent.specs.Refusal.{refusal}
use Rattle.picture.specs.declared.Size.{Size}
use Rattle.picture.specs.Sizes.{stride_of, planes_short}
use Rattle.to_rgba.specs.declared.Pixels.{Pixels}
use Rattle.rects.specs.declared.Rect.{Rect}
use Rattle.to_rgba.specs.Pictured.{pictured, shifted}
use Rattle.to_rgba_rows.specs.Rules.{pixel_at, row_filtered_of}

abbrev pub clipped_of : ℕ → ℕ → ℕ → ℕ
clipped_of a b n = min b n - a

abbrev pub across_of : Size → Rect → ℕ
across_of z q = clipped_of q.left q.right z.width

abbrev pub down_of : Size → Rect → ℕ
down_of z q = clipped_of q.top q.bottom z.height

abbrev pub to_rgba_count_of : Size → Rect → ℕ
to_rgba_count_of z q = 4 * (across_of z q * down_of z q)

-- "Picture to RGBA reports the number of filtered U samples and of V samples"
abbrev pub filtered_rows_of : ℕ → ℕ → ℕ → ℕ → ℕ → List ℕ → ℕ
filtered_rows_of stride left top n h p = total h (λ r. row_filtered_of stride (top + r) left n p)

unfoldable pub filtered_in : Size → Rect → List ℕ → ℕ
filtered_in z q p = filtered_rows_of (stride_of z) q.left q.top (across_of z q) (down_of z q) p

abbrev pub pixels_of : ℕ → ℕ → ℕ → ℕ → Pixels
pixels_of n count in-u in-v =
    record { number = n; count = cond (eqb n 0) count 0; filtered_u = cond (eqb n 0) in-u 0; filtered_v = cond (eqb n 0) in-v 0 }

unfoldable pub to_rgba_number_of : Size → ℕ → ℕ → ℕ → ℕ → ℕ → ℕ
to_rgba_number_of z count ny nu nv nout = refusal ((planes_short z ny nu nv, 1) ∷ (ltb nout count, 6) ∷ [])

unfoldable pub to_rgba_of : Size → List ℕ → List ℕ → List ℕ → Rect → List ℕ → List ℕ
to_rgba_of z y u v q out = pictured (across_of z q) (down_of z q) (shifted q.top q.left (pixel_at (stride_of z) y u v)) out

abbrev pub ToRgbaOutcome : Size → List ℕ → List ℕ → List ℕ → Rect → List ℕ → Pixels → List (List ℕ) → Type 0
ToRgbaOutcome z y u v q out =
    let n = to_rgba_number_of z (to_rgba_count_of z q) (length y) (length u) (length v) (length out) in
    Outcome (pixels_of n (to_rgba_count_of z q) (filtered_in z q u) (filtered_in z q v)) (lent_after n out (to_rgba_of z y u v q out) ∷ [])
