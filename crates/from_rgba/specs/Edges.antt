-- The edge of a picture that is made from RGBA pixels: what its padding holds before the average (R44, R45). The picture has `width` columns
-- and `height` rows.
--
--   filled width height p r c      what row r, column c holds once p's edge is filled: the picture's nearest sample
--   edged e width height p r c     what it holds by the edge rule e: p as it is, or filled
--   past_column width height r c    the padding right of the picture's rows
--   past_row height r c             the padding below the picture's rows
use Rattle.std.specs.Prelude.{ℕ, ◌-◌, min, Bool, ◌&&◌, ltb, leb}
use Rattle.from_rgba.specs.declared.edges.Edge.{Edge}
use Rattle.from_rgba.specs.declared.edges.Edge.TheVariants.{Fresh, Filled}

-- "copy the last picture column, then the last picture row, .. into the padding"
unfoldable pub filled : ℕ → ℕ → (ℕ → ℕ → ℕ) → ℕ → ℕ → ℕ
filled width height p r c = p (min r (height - 1)) (min c (width - 1))

abbrev pub edged : Edge → ℕ → ℕ → (ℕ → ℕ → ℕ) → ℕ → ℕ → ℕ
edged Fresh width height p = p
edged Filled width height p = filled width height p

unfoldable pub past_column : ℕ → ℕ → ℕ → ℕ → Bool
past_column width height r c = ltb r height && leb width c

unfoldable pub past_row : ℕ → ℕ → ℕ → Bool
past_row height r c = leb height r
