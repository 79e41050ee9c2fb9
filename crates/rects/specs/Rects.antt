-- Rectangle lists and the widened area (R10, R60 to R62).
--
--   a rectangle list            lent numbers in fours: left, top, right, bottom (right and bottom exclusive)
--   rect_at_of rects i            rectangle i of the list
--   Rule                        which samples a rectangle takes: a test of left, top, right, bottom, row and column
--   nth rule rects i r c        rectangle i of the list takes the sample at row r, column c
--   taken_by rule rects n r c    some of the first n rectangles takes it
--   taken rule rects r c        some rectangle of the list takes it: order and repetition have no effect (`taken_same`)
--   chroma_block_area_of z left top right bottom     the edges of the widened area: left and top rounded down to even; min(right, width)
--                               and min(bottom, height) rounded up to even
--   area z left top right bottom r c              row r, column c lies in the widened area. It is empty unless left < right and
--                               top < bottom after rounding (`area_empty`)
--   NoArea z left top right bottom                the widened area is empty: its edges meet or cross
--   Touched z left top right bottom r c           the 2x2 block of row r, column c has a pixel of the rectangle, clipped to the picture
use Rattle.std.specs.Prelude.{ℕ, ◌+◌, ◌*◌, ◌/◌, min, ◌≤◌, ◌<◌, ◌≡◌, Bool, ◌⊎◌, List, length, get_or}
use Rattle.lent.specs.Paint.{box, some}
use Rattle.lent.specs.Sizes.{round_up}
use Rattle.picture.specs.declared.Size.{Size}
use Rattle.rects.specs.declared.Area.{Area}
use Rattle.rects.specs.declared.Rect.{Rect}

abbrev pub Rule : Type 0
Rule = ℕ → ℕ → ℕ → ℕ → ℕ → ℕ → Bool

abbrev pub rect_at_of : List ℕ → ℕ → Rect
rect_at_of rects i = record {
  left = get_or rects (4 * i) 0;
  top = get_or rects (4 * i + 1) 0;
  right = get_or rects (4 * i + 2) 0;
  bottom = get_or rects (4 * i + 3) 0;
}

-- what a rule says of a rectangle
abbrev pub by : Rule → Rect → ℕ → ℕ → Bool
by rule rect = rule rect.left rect.top rect.right rect.bottom

unfoldable pub nth : Rule → List ℕ → ℕ → ℕ → ℕ → Bool
nth rule rects i r c = by rule (rect_at_of rects i) r c

unfoldable pub taken_by : Rule → List ℕ → ℕ → ℕ → ℕ → Bool
taken_by rule rects n r c = some n (λ i. nth rule rects i r c)

abbrev pub taken : Rule → List ℕ → ℕ → ℕ → Bool
taken rule rects = taken_by rule rects (length rects / 4)

abbrev pub chroma_block_area_of : Size → ℕ → ℕ → ℕ → ℕ → Area
chroma_block_area_of z left top right bottom = record {
  left = left / 2 * 2;
  top = top / 2 * 2;
  right = round_up 2 (min right z.width);
  bottom = round_up 2 (min bottom z.height);
}

-- the rows and columns of an area
abbrev pub in_area : Area → ℕ → ℕ → Bool
in_area a = box a.top a.bottom a.left a.right

abbrev pub area : Size → Rule
area z left top right bottom = in_area (chroma_block_area_of z left top right bottom)

abbrev pub NoArea : Size → ℕ → ℕ → ℕ → ℕ → Type 0
NoArea z left top right bottom =
    ((chroma_block_area_of z left top right bottom).right ≤ (chroma_block_area_of z left top right bottom).left)
    ⊎ ((chroma_block_area_of z left top right bottom).bottom ≤ (chroma_block_area_of z left top right bottom).top)

pub record Touched (z : Size) (left top right bottom r c : ℕ) : Type 0 where
  pub row : ℕ
  pub col : ℕ
  pub from_top : top ≤ row
  pub above_bottom : row < min bottom z.height
  pub from_left : left ≤ col
  pub before_right : col < min right z.width
  pub same_row : row / 2 ≡ r / 2
  pub same_col : col / 2 ≡ c / 2
