-- The map of stale colour (R74): one byte for each 2x2 block of the padded picture, row by row. 0: the block never had a main view; 1: a
-- main view, and since then no auxiliary view that completed it; 2: complete. Block i, j has the rows 2i and 2i + 1 of the picture's planes
-- and the columns 2j and 2j + 1.
--
--   across_of z, down_of z     the map's row length and its rows: stride/2 and rows/2
--   map_size_of z              its bytes
--   map_short z n             refusal 1: n bytes are fewer than stride/2 x rows/2
--   map_of z s xs             the buffer xs, its map holding s i j for block i, j; bytes after it never change
--   held_of z m i j           what the map m holds for block i, j
--   turned_of n               "turns 1 into 2 ..; anything else stays"
--   turned_at m w i j         the same of block i, j of a map with w blocks in a row
--   stale n                  the block is not 2
--   stale_rows_of w left top n h m     how many pixels, in h rows of n columns from row `top` and column `left` on, lie in blocks that are not 2
--   picture_short z ny nu nv n    refusal 1 of a call that is lent the map too: a plane is short, or the map is
--   PictureFits z ny nu nv n     each plane is at least stride x rows long, and the map stride/2 x rows/2
--   BoxFits z n a            what a writer of a box of blocks asks of its caller: the map is whole in n bytes, and the box lies in it
--   StaleFits z len left top n h     what the count asks: the map is whole in `len` bytes, there is a pixel in a row, and all pixels lie in the planes
use Rattle.std.specs.Prelude.{ℕ, ◌+◌, ◌*◌, ◌/◌, ◌≤◌, ◌<◌, Bool, cond, not, ◌||◌, List, eqb}
use Rattle.lent.specs.Counts.{total, count_of}
use Rattle.lent.specs.Paint.{painted, whole}
use Rattle.lent.specs.Samples.{sample}
use Rattle.lent.specs.Sizes.{too_short}
use Rattle.picture.specs.declared.Size.{Size}
use Rattle.picture.specs.Sizes.{stride_of, rows_of, planes_short, PlanesFit}
use Rattle.rects.specs.declared.Area.{Area}

abbrev pub across_of : Size → ℕ
across_of z = stride_of z / 2

abbrev pub down_of : Size → ℕ
down_of z = rows_of z / 2

abbrev pub map_size_of : Size → ℕ
map_size_of z = down_of z * across_of z

abbrev pub map_short : Size → ℕ → Bool
map_short z n = too_short (across_of z) (down_of z) n

abbrev pub map_of : Size → (ℕ → ℕ → ℕ) → List ℕ → List ℕ
map_of z s xs = painted (across_of z) (down_of z) whole s xs

abbrev pub held_of : Size → List ℕ → ℕ → ℕ → ℕ
held_of z m = sample m (across_of z)

abbrev pub turned_of : ℕ → ℕ
turned_of n = cond (eqb n 1) 2 n

unfoldable pub turned_at : List ℕ → ℕ → ℕ → ℕ → ℕ
turned_at m w i j = turned_of (sample m w i j)

abbrev pub stale : ℕ → Bool
stale n = not (eqb n 2)

abbrev pub stale_rows_of : ℕ → ℕ → ℕ → ℕ → ℕ → List ℕ → ℕ
stale_rows_of w left top n h m = total h (λ r. count_of n (λ c. stale (sample m w ((top + r) / 2) ((left + c) / 2))))

unfoldable pub picture_short : Size → ℕ → ℕ → ℕ → ℕ → Bool
picture_short z ny nu nv n = planes_short z ny nu nv || map_short z n

pub record PictureFits (z : Size) (ny nu nv n : ℕ) : Type 0 where
  pub planes : PlanesFit z ny nu nv
  pub map : down_of z * across_of z ≤ n

pub record BoxFits (z : Size) (n : ℕ) (a : Area) : Type 0 where
  pub map_fits : down_of z * across_of z ≤ n
  pub rows_inside : a.bottom ≤ down_of z
  pub ordered : a.left ≤ a.right
  pub inside : a.right ≤ across_of z

pub record StaleFits (z : Size) (len left top n h : ℕ) : Type 0 where
  pub map_fits : down_of z * across_of z ≤ len
  pub some : 0 < n
  pub columns : left + n ≤ stride_of z
  pub rows : top + h ≤ rows_of z
