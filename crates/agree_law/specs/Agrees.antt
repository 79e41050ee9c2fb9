-- Demand 3, in its own sentences: "Both then hold its luma at each picture pixel inside a rectangle and its chroma in each widened
-- rectangle, as R60 widens it. All other picture luma and all other chroma is as it was before." And of the maps of stale colour: each
-- block that lies in a widened rectangle is 2, and every other block is as it was before.
--
--   Picture               what the planes of a picture hold, by row and column: luma, and chroma of the plane CU or CV
--   picture_of z p         that of three lent planes of a picture of the size z: its padded planes, whose rows start a stride apart
--   inside rects r c      row r, column c lies in some rectangle of the list: from left and top to below right and below bottom
--   widened z rects r c   it lies in some widened rectangle of the list
--   Agrees z rects p q x  the sentences above, of a picture p of the size z, an earlier picture q of that size, and x, which q has become
--   Completed z rects k l       the last sentence, of the earlier picture's map k and of l, which it has become
--   Same z x x'           what two such leave alike: the luma of the picture's pixels, and all chroma of the padded planes
use Rattle.std.specs.Prelude.{ℕ, ◌*◌, ◌<◌, ◌≡◌, Bool, true, false, List}
use Rattle.lent.specs.Paint.{box}
use Rattle.lent.specs.Samples.{sample}
use Rattle.picture.specs.declared.Size.{Size}
use Rattle.picture.specs.Sizes.{stride_of, rows_of}
use Rattle.layout.specs.declared.Chroma.{Chroma}
use Rattle.rects.specs.Rects.{Rule, taken, area}
use Rattle.map.specs.Map.{across_of, down_of, held_of}
use Rattle.split.specs.Split.{Planes, pick_chroma}

pub record Picture : Type 0 where
  pub luma : ℕ → ℕ → ℕ
  pub chroma : Chroma → ℕ → ℕ → ℕ

abbrev pub picture_of : Size → Planes → Picture
picture_of z p = record { luma = sample p.y (stride_of z); chroma = λ k. sample (pick_chroma k p.u p.v) (stride_of z) }

abbrev pub in_rect : Rule
in_rect left top right bottom = box top bottom left right

abbrev pub inside : List ℕ → ℕ → ℕ → Bool
inside = taken in_rect

abbrev pub widened : Size → List ℕ → ℕ → ℕ → Bool
widened z = taken (area z)

pub record Agrees (z : Size) (rects : List ℕ) (p q x : Picture) : Type 0 where
  -- its luma at each picture pixel inside a rectangle; all other picture luma as before
  pub luma_inside : (r c : ℕ) → r < z.height → c < z.width → inside rects r c ≡ true → x.luma r c ≡ p.luma r c
  pub luma_elsewhere : (r c : ℕ) → r < z.height → c < z.width → inside rects r c ≡ false → x.luma r c ≡ q.luma r c
  -- its chroma in each widened rectangle; all other chroma as before
  pub chroma_inside : (k : Chroma) (r c : ℕ) → widened z rects r c ≡ true → x.chroma k r c ≡ p.chroma k r c
  pub chroma_elsewhere : (k : Chroma) (r c : ℕ) → r < rows_of z → c < stride_of z → widened z rects r c ≡ false → x.chroma k r c ≡ q.chroma k r c

-- block i, j has the rows 2i and 2i + 1 and the columns 2j and 2j + 1, and a widened rectangle has all of it or nothing
pub record Completed (z : Size) (rects k l : List ℕ) : Type 0 where
  pub inside : (i j : ℕ) → widened z rects (2 * i) (2 * j) ≡ true → held_of z l i j ≡ 2
  pub elsewhere : (i j : ℕ) → i < down_of z → j < across_of z → widened z rects (2 * i) (2 * j) ≡ false → held_of z l i j ≡ held_of z k i j

pub record Same (z : Size) (x x' : Picture) : Type 0 where
  pub luma : (r c : ℕ) → r < z.height → c < z.width → x.luma r c ≡ x'.luma r c
  pub chroma : (k : Chroma) (r c : ℕ) → r < rows_of z → c < stride_of z → x.chroma k r c ≡ x'.chroma k r c
