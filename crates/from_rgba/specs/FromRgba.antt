-- A picture from RGBA pixels (R41 to R46; numbers 2, then 1: R22). Everywhere m is the colour matrix.
--
--   converted_of m px z r c Y, U and V of the input's pixel at row r, column c: four bytes a pixel, red, green, blue and an alpha that is
--                          ignored (said in Rows.antt)
--   in_picture z r c        row r, column c is within the width and height; the rest of a plane is padding (said in Rows.antt)
--   luma_plane, chroma_u_plane, chroma_v_plane m z px r c   each plane: the converted pixels, and padding as in a fresh picture
--   with_edge e z p         the plane p before the average: its padding by the edge rule e (said in Edges.antt)
--   SamePixels z px qx     px and qx agree in the red, green and blue of every pixel of the picture: "Input after width x height x 4 bytes is
--                          ignored, and so is its alpha"
--   Repeated z px z' qx    qx are the pixels of a picture as wide and high as the planes of z: px, with its last column, then its last row, repeated
--   rgba_short z n          refusal 2: n bytes are fewer than width x height x 4
--   from_number_of z n ny nu nv      the number that every call answers, n being the input's length, ny, nu and nv the planes'
--   made_buffers_of n m e px z y u v what the three lent buffers hold after a call that answers n, by the edge rule e
--   from_buffers_of m e px z y u v   what they hold after `with_edge`
--   FromRgbaOutcome m e px z y u v how the call ends, refusals included
use Rattle.std.specs.Prelude.{ℕ, ◌+◌, ◌*◌, ◌-◌, ◌<◌, min, ◌≡◌, Bool, cond, List, [], ◌∷◌, ltb, length, get_or}
use Rattle.lent.specs.declared.Answer.{Answer}
use Rattle.lent.specs.Outcome.{Outcome, answer_of, lent_after}
use Rattle.lent.specs.Refusal.{refusal}
use Rattle.colour.specs.declared.Matrix.{Matrix}
use Rattle.colour.specs.declared.Yuv.{Yuv}
use Rattle.from_rgba.specs.declared.edges.Edge.{Edge}
use Rattle.from_rgba.specs.Averaged.{averaged}
use Rattle.from_rgba.specs.Edges.{edged}
use Rattle.from_rgba.specs.Rows.{input_at, inside}
use Rattle.picture.specs.declared.Size.{Size}
use Rattle.picture.specs.Sizes.{stride_of, rows_of, planes_short, plane_of}
use Rattle.picture.specs.New.{fresh_luma, fresh_chroma}

abbrev pub converted_of : Matrix → List ℕ → Size → ℕ → ℕ → Yuv
converted_of m px z = input_at m px z.width

abbrev pub in_picture : Size → ℕ → ℕ → Bool
in_picture z = inside z.width z.height

-- "Padding holds 128" in U and V, and 0 in Y, as in the fresh picture that the Rust starts from
abbrev pub luma_plane : Matrix → Size → List ℕ → ℕ → ℕ → ℕ
luma_plane m z px r c = cond (in_picture z r c) (converted_of m px z r c).y (fresh_luma r c)

abbrev pub chroma_u_plane : Matrix → Size → List ℕ → ℕ → ℕ → ℕ
chroma_u_plane m z px r c = cond (in_picture z r c) (converted_of m px z r c).u (fresh_chroma r c)

abbrev pub chroma_v_plane : Matrix → Size → List ℕ → ℕ → ℕ → ℕ
chroma_v_plane m z px r c = cond (in_picture z r c) (converted_of m px z r c).v (fresh_chroma r c)

abbrev pub with_edge : Edge → Size → (ℕ → ℕ → ℕ) → ℕ → ℕ → ℕ
with_edge e z = edged e z.width z.height

pub record SamePixels (z : Size) (px qx : List ℕ) : Type 0 where
  pub same : (r c k : ℕ) → r < z.height → c < z.width → k < 3 → get_or px (4 * (r * z.width + c) + k) 0 ≡ get_or qx (4 * (r * z.width + c) + k) 0

pub record Repeated (z : Size) (px : List ℕ) (z' : Size) (qx : List ℕ) : Type 0 where
  pub wide : z'.width ≡ stride_of z
  pub high : z'.height ≡ rows_of z
  pub pixel : (r c k : ℕ) → r < rows_of z → c < stride_of z → k < 3
      → get_or qx (4 * (r * z'.width + c) + k) 0 ≡ get_or px (4 * (min r (z.height - 1) * z.width + min c (z.width - 1)) + k) 0

abbrev pub rgba_short : Size → ℕ → Bool
rgba_short z n = ltb n (z.width * z.height * 4)

abbrev pub from_number_of : Size → ℕ → ℕ → ℕ → ℕ → ℕ
from_number_of z n ny nu nv = refusal ((rgba_short z n, 2) ∷ (planes_short z ny nu nv, 1) ∷ [])

abbrev pub made_buffers_of : ℕ → Matrix → Edge → List ℕ → Size → List ℕ → List ℕ → List ℕ → List (List ℕ)
made_buffers_of n m e px z y u v =
    lent_after n y (plane_of z (with_edge e z (luma_plane m z px)) y)
    ∷ lent_after n u (plane_of z (averaged (with_edge e z (chroma_u_plane m z px))) u)
    ∷ lent_after n v (plane_of z (averaged (with_edge e z (chroma_v_plane m z px))) v)
    ∷ []

unfoldable pub from_buffers_of : Matrix → Edge → List ℕ → Size → List ℕ → List ℕ → List ℕ → List (List ℕ)
from_buffers_of m e px z y u v = made_buffers_of (from_number_of z (length px) (length y) (length u) (length v)) m e px z y u v

abbrev pub FromRgbaOutcome : Matrix → Edge → List ℕ → Size → List ℕ → List ℕ → List ℕ → Answer → List (List ℕ) → Type 0
FromRgbaOutcome m e px z y u v =
    Outcome (answer_of (from_number_of z (length px) (length y) (length u) (length v)) 0) (from_buffers_of m e px z y u v)
