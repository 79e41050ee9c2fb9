-- The planes of a picture that is made from RGBA pixels, before the average (R41). The picture has `width` columns and
-- `height` rows; its planes have both rounded up to 16.
--
--   colour_at m px k                Y, U and V, by the matrix m, of pixel k of the bytes px: four bytes a pixel, red, green, blue and an alpha
--                                  that is ignored
--   colour_apart m r g b k          the same of the pixel whose bytes are at place k of three lists
--   input_at m px width r c         the same of the input's pixel at row r, column c
--   inside width height r c        row r, column c is within the width and height; the rest of a plane is padding
--   padding_from_of width height r   the column from which row r is padding
--   line_of px at n                 the n pixels from byte `at` on
--   line_painted a n s xs           xs, with s k at place k of the n bytes from a on
--   PixelsFit npx ny nu nv         a row's pixels are four bytes for each of its samples
--   LineFits npx ny nu nv at n line      n pixels from byte `at` on are in the input, and n samples from `line` on in each plane
--   RoomFor width height npx ny nu nv    the input has every pixel, and each buffer has room for a whole plane
use Rattle.std.specs.Prelude.{ℕ, ◌+◌, ◌*◌, ◌≤◌, ◌≡◌, Bool, cond, ◌&&◌, List, ◌++◌, ltb, get_or, take, drop}
use Rattle.lent.specs.Paint.{paint, every}
use Rattle.lent.specs.Sizes.{round_up}
use Rattle.colour.specs.Limited.{forward_by}
use Rattle.colour.specs.declared.Matrix.{Matrix}
use Rattle.colour.specs.declared.Yuv.{Yuv}

unfoldable pub colour_at : Matrix → List ℕ → ℕ → Yuv
colour_at m px k = forward_by m (get_or px (4 * k) 0) (get_or px (4 * k + 1) 0) (get_or px (4 * k + 2) 0)

abbrev pub colour_apart : Matrix → List ℕ → List ℕ → List ℕ → ℕ → Yuv
colour_apart m r g b k = forward_by m (get_or r k 0) (get_or g k 0) (get_or b k 0)

-- "convert each pixel": they are packed, row after row of `width` pixels
abbrev pub input_at : Matrix → List ℕ → ℕ → ℕ → ℕ → Yuv
input_at m px width r c = colour_at m px (r * width + c)

unfoldable pub inside : ℕ → ℕ → ℕ → ℕ → Bool
inside width height r c = ltb r height && ltb c width

abbrev pub padding_from_of : ℕ → ℕ → ℕ → ℕ
padding_from_of width height r = cond (ltb r height) width 0

abbrev pub line_of : List ℕ → ℕ → ℕ → List ℕ
line_of px at n = take (4 * n) (drop at px)

abbrev pub line_painted : ℕ → ℕ → (ℕ → ℕ) → List ℕ → List ℕ
line_painted a n s xs = take a xs ++ (paint every s (take n (drop a xs)) ++ drop n (drop a xs))

pub record PixelsFit (npx ny nu nv : ℕ) : Type 0 where
  pub pixels : npx ≡ 4 * ny
  pub same_u : nu ≡ ny
  pub same_v : nv ≡ ny

pub record LineFits (npx ny nu nv at n line : ℕ) : Type 0 where
  pub pixels : at + 4 * n ≤ npx
  pub y_fits : line + n ≤ ny
  pub u_fits : line + n ≤ nu
  pub v_fits : line + n ≤ nv

pub record RoomFor (width height npx ny nu nv : ℕ) : Type 0 where
  pub pixels : width * height * 4 ≤ npx
  pub y_fits : round_up 16 height * round_up 16 width ≤ ny
  pub u_fits : round_up 16 height * round_up 16 width ≤ nu
  pub v_fits : round_up 16 height * round_up 16 width ≤ nv
