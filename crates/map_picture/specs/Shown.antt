-- Picture to RGBA with the map (R22, R57): "picture to RGBA also counts the pixels of its rectangle in blocks that are not 2".
--
--   stale_in z q m          how many pixels of the rectangle q, clipped to the picture, lie in blocks that are not 2
--   map_pixels_of n count in-u in-v stale      the answer with the number n: in a refusal all counts are 0
--   map_to_rgba_number_of z count ny nu nv n nout      1, which covers the map, then 6; n is the map's length
--   MapToRgbaOutcome z y u v m q out      how the call ends, refusals included
use Rattle.std.specs.Prelude.{ℕ, cond, List, [], ◌∷◌, ltb, eqb, length}
use Rattle.lent.specs.Outcome.{Outcome, lent_after}
use Rattle.lent.specs.Refusal.{refusal}
use Rattle.picture.specs.declared.Size.{Size}
use Rattle.rects.specs.declared.Rect.{Rect}
use Rattle.to_rgba.specs.Picture as shown
use Rattle.to_rgba.specs.Picture.{to_rgba_count_of, filtered_in, to_rgba_of}
use Rattle.map.specs.Map.{across_of, picture_short, stale_rows_of}
use Rattle.map_picture.specs.declared.Pixels.{Pixels}

unfoldable pub stale_in : Size → Rect → List ℕ → ℕ
stale_in z q m = stale_rows_of (across_of z) q.left q.top (shown.across_of z q) (shown.down_of z q) m

abbrev pub map_pixels_of : ℕ → ℕ → ℕ → ℕ → ℕ → Pixels
map_pixels_of n count in-u in-v stale = record {
  number = n;
  count = cond (eqb n 0) count 0;
  filtered_u = cond (eqb n 0) in-u 0;
  filtered_v = cond (eqb n 0) in-v 0;
  stale = cond (eqb n 0) stale 0;
}

unfoldable pub map_to_rgba_number_of : Size → ℕ → ℕ → ℕ → ℕ → ℕ → ℕ → ℕ
map_to_rgba_number_of z count ny nu nv n nout = refusal ((picture_short z ny nu nv n, 1) ∷ (ltb nout count, 6) ∷ [])

abbrev pub MapToRgbaOutcome : Size → List ℕ → List ℕ → List ℕ → List ℕ → Rect → List ℕ → Pixels → List (List ℕ) → Type 0
MapToRgbaOutcome z y u v m q out =
    let n = map_to_rgba_number_of z (to_rgba_count_of z q) (length y) (length u) (length v) (length m) (length out) in
    Outcome (map_pixels_of n (to_rgba_count_of z q) (filtered_in z q u) (filtered_in z q v) (stale_in z q m)) (lent_after n out (to_rgba_of z y u v q out) ∷ [])
