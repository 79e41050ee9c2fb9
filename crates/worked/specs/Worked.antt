-- The numbers worked by hand that are marked P (R130 to R132, R135), and what each says.
--   Line     a line of the table: one constructor for each kind
--   Right l  what the line l says
--   worked   the table
--   All ls   each line of ls is right
--   first_rows n cs   of 16 rows, the first n take the columns cs and the others none
-- A further kind of line is a constructor of Line, a clause of Right and its lines in the table.
use Rattle.std.specs.Prelude.{Bool, true, false, List, [], ◌∷◌, ◌++◌, ◌≡◌, ℕ, ◌-◌, replicate}
use Rattle.colour.specs.Colour.{forward_of, reverse_of, undone_of}
use Rattle.colour.specs.Limited.{limited_forward_of, limited_reverse_of}
use Rattle.picture.specs.declared.Size.{Size}
use Rattle.view.specs.declared.View.{View}
use Rattle.apply_main.specs.Main.{main_luma, main_chroma}
use Rattle.apply_main.specs.Columns.{columns_taken}

pub data Line : Type 0 where
  -- "Colour, forward and back": r g b, then the y u v that it gives, then the r g b that this gives back
  colour : ℕ → ℕ → ℕ → ℕ → ℕ → ℕ → ℕ → ℕ → ℕ → Line
  -- the same by limited range
  limited : ℕ → ℕ → ℕ → ℕ → ℕ → ℕ → ℕ → ℕ → ℕ → Line
  -- by limited range, of Y, U and V that no colour gives: y u v, then r g b
  limited_back : ℕ → ℕ → ℕ → ℕ → ℕ → ℕ → Line
  -- "Filter (a, s)": a and s, then the answer's value, and whether it was applied
  filter : ℕ → ℕ → ℕ → Bool → Line
  -- "Rectangles, 5x5 picture, 16x16 view": left, top, right, bottom, then the luma columns that each of the 16 rows takes from a main
  -- view, and the chroma columns
  rectangle : ℕ → ℕ → ℕ → ℕ → List (List ℕ) → List (List ℕ) → Line

abbrev pub first_rows : ℕ → List ℕ → List (List ℕ)
first_rows n cs = replicate n cs ++ replicate (16 - n) []

abbrev size5 : Size
size5 = record { width = 5; height = 5 }

abbrev view16 : View
view16 = record { width = 16; height = 16; luma_stride = 16; chroma_stride = 8 }

abbrev pub Right : Line → Type 0
Right (colour r g b y u v r' g' b') = (forward_of r g b ≡ record { y = y; u = u; v = v }) × (reverse_of y u v ≡ r' ∷ g' ∷ b' ∷ 255 ∷ [])
Right (limited r g b y u v r' g' b') = (limited_forward_of r g b ≡ record { y = y; u = u; v = v }) × (limited_reverse_of y u v ≡ r' ∷ g' ∷ b' ∷ 255 ∷ [])
Right (limited_back y u v r g b) = limited_reverse_of y u v ≡ r ∷ g ∷ b ∷ 255 ∷ []
Right (filter a s t applied) = undone_of a s ≡ record { value = t; applied = applied }
Right (rectangle left top right bottom luma chroma) =
    (columns_taken 16 16 (main_luma size5 view16 left top right bottom) ≡ luma)
    × (columns_taken 16 16 (main_chroma size5 view16 left top right bottom) ≡ chroma)

abbrev pub All : List Line → Type 0
All [] = Unit {0}
All (l ∷ ls) = Right l × All ls

unfoldable pub worked : List Line
worked =
    -- black, white, red, green, blue
    colour 0 0 0 0 128 128 0 0 0
    ∷ colour 255 255 255 254 128 128 254 254 254
    ∷ colour 255 0 0 53 99 255 252 0 0
    ∷ colour 0 255 0 182 29 12 0 254 0
    ∷ colour 0 0 255 17 255 116 0 0 252
    -- the same in limited range, where Y below 16 is black too, and Y above 235 white
    ∷ limited 0 0 0 16 128 128 0 0 0
    ∷ limited 255 255 255 235 128 128 255 255 255
    ∷ limited 255 0 0 82 90 240 255 1 0
    ∷ limited 0 255 0 144 54 34 0 254 0
    ∷ limited 0 0 255 41 240 110 0 0 255
    ∷ limited_back 0 128 128 0 0 0
    ∷ limited_back 255 128 128 255 255 255
    -- the filter: two edges, each with what is just kept and what is just replaced, and a t that is clamped and kept
    ∷ filter 100 329 100 false
    ∷ filter 100 330 70 true
    ∷ filter 100 271 100 false
    ∷ filter 100 270 130 true
    ∷ filter 20 180 20 false
    -- the rectangles: chroma columns 4 and 5 and no luma; nothing; luma columns 3 to 5, chroma 2 to 5
    ∷ rectangle 5 0 5 4 (first_rows 0 []) (first_rows 4 (4 ∷ 5 ∷ []))
    ∷ rectangle 4 0 4 4 (first_rows 0 []) (first_rows 0 [])
    ∷ rectangle 3 0 6 2 (first_rows 2 (3 ∷ 4 ∷ 5 ∷ [])) (first_rows 2 (2 ∷ 3 ∷ 4 ∷ 5 ∷ []))
    ∷ []
