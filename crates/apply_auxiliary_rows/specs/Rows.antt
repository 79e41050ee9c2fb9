-- What an auxiliary view gives to one row of a chroma plane of the picture (R65 to R70: where a
-- sample lives and which exist is `layout`'s).
--
--   view_sample w vy vu vv s              the sample of the view w, whose planes are vy, vu and vv, at a spot
--   auxiliary_source t k w vy vu vv r c         what the auxiliary view w of the layout t has for row r, column c of the chroma plane k: its sample
--                                        at the spot of that place
--   auxiliary_row t w row left right r c        of row `row`, the columns from left to below right that the view gives
--   auxiliary_only p t w row left right r c     of those, the columns of the kind p: odd or even
--   AreaFits z n bottom left right        what a row function asks of its caller: the picture's plane of n bytes is whole, rows below
--                                        `bottom` and columns from left to below right lie in it, and both edges are even
--   IsRow p plane r line            the bytes `line` are row r of the plane, whose sizes are p
use Rattle.std.specs.Prelude.{ℕ, ◌*◌, ◌%◌, ◌<◌, ◌≤◌, ◌≡◌, Bool, ◌&&◌, List, take, drop, length}
use Rattle.lent.specs.Paint.{row_part}
use Rattle.lent.specs.Samples.{sample}
use Rattle.picture.specs.declared.Size.{Size}
use Rattle.picture.specs.Sizes.{stride_of, rows_of}
use Rattle.view.specs.declared.View.{View}
use Rattle.view.specs.declared.Plane.{Plane}
use Rattle.layout.specs.declared.Chroma.{Chroma}
use Rattle.layout.specs.declared.Layout.{Layout}
use Rattle.layout.specs.Maps.{Part, PY, PU, PV, Spot, place, maps}
use Rattle.layout.specs.Exists.{fed}

abbrev pub part_sample : View → List ℕ → List ℕ → List ℕ → Part → ℕ → ℕ → ℕ
part_sample w vy vu vv PY = sample vy w.luma_stride
part_sample w vy vu vv PU = sample vu w.chroma_stride
part_sample w vy vu vv PV = sample vv w.chroma_stride

abbrev pub view_sample : View → List ℕ → List ℕ → List ℕ → Spot → ℕ
view_sample w vy vu vv s = part_sample w vy vu vv s.part s.row s.col

unfoldable pub auxiliary_source : Layout → Chroma → View → List ℕ → List ℕ → List ℕ → ℕ → ℕ → ℕ
auxiliary_source t k w vy vu vv r c = view_sample w vy vu vv ((maps t).spot (place k r c))

abbrev pub auxiliary_row : Layout → View → ℕ → ℕ → ℕ → ℕ → ℕ → Bool
auxiliary_row t w row left right = row_part (fed t w.width w.height row) row left right

abbrev pub auxiliary_only : (ℕ → Bool) → Layout → View → ℕ → ℕ → ℕ → ℕ → ℕ → Bool
auxiliary_only p t w row left right = row_part (λ c. fed t w.width w.height row c && p c) row left right

pub record AreaFits (z : Size) (n bottom left right : ℕ) : Type 0 where
  pub plane_fits : rows_of z * stride_of z ≤ n
  pub rows_inside : bottom ≤ rows_of z
  pub ordered : left ≤ right
  pub inside : right ≤ stride_of z
  pub even_left : left % 2 ≡ 0
  pub even_right : right % 2 ≡ 0

pub record IsRow (p : Plane) (plane : List ℕ) (r : ℕ) (line : List ℕ) : Type 0 where
  pub there : r < p.height
  pub long : length line ≡ p.width
  pub bytes : line ≡ take p.width (drop (r * p.stride) plane)
