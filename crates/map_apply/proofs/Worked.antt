-- The map by hand: which blocks a view of some size marks, and which it completes. Each is computed over the definitions, block by block.
-- Assumes nothing.
use Prim.Native.Nat.{ℕ}
use mathlib.Core.Path.{◌≡◌, refl}
use mathlib.Core.List.{List, [], ◌∷◌}
use Rattle.lent.specs.Paint.{within, box, some}
use Rattle.lent.specs.Sizes.{half_up}
use Rattle.picture.specs.declared.Size.{Size}
use Rattle.view.specs.declared.View.{View}
use Rattle.layout.specs.declared.Layout.{Layout}
use Rattle.layout.specs.declared.Layout.TheVariants.{V1, V2}
use Rattle.layout.specs.Exists.{fed}
use Rattle.rects.specs.Rects.{nth, taken_by}
use Rattle.apply_main.specs.Columns.{those_below, columns_taken}
use Rattle.apply_main.specs.Main.{main_chroma}
use Rattle.apply_auxiliary.specs.Auxiliary.{auxiliary_in}
use Rattle.map.specs.Map.{map_size_of}
use Rattle.map_apply.specs.Blocks.{main_marks, auxiliary_completes}

abbrev size : ℕ → ℕ → Size
size w h = record { width = w; height = h }

abbrev view : ℕ → ℕ → View
view w h = record { width = w; height = h; luma_stride = w; chroma_stride = half_up w }

-- of the first n block rows and m block columns, those that a main view marks, and those that an auxiliary view completes
abbrev marks : ℕ → ℕ → Size → View → List ℕ → List (List ℕ)
marks n m z w rects = columns_taken n m (main_marks z w rects)

abbrev completes : ℕ → ℕ → Layout → Size → View → List ℕ → List (List ℕ)
completes n m t z w rects = columns_taken n m (auxiliary_completes t z w rects)

-- a picture of 1x1 has 64 blocks
pub one_pixel : map_size_of (size 1 1) ≡ 64
one_pixel = refl

-- 5x5, a view that has all of it: (5,0,5,4) marks block column 2 of block rows 0 and 1, (4,0,4,4) marks nothing
pub empty_that_widens : marks 3 4 (size 5 5) (view 16 16) (5 ∷ 0 ∷ 5 ∷ 4 ∷ []) ≡ (2 ∷ []) ∷ (2 ∷ []) ∷ [] ∷ []
unfolding those_below columns_taken some taken_by nth main_chroma box within
empty_that_widens = refl

pub empty_that_does_not : marks 3 4 (size 5 5) (view 16 16) (4 ∷ 0 ∷ 4 ∷ 4 ∷ []) ≡ [] ∷ [] ∷ [] ∷ []
unfolding those_below columns_taken some taken_by nth main_chroma box within
empty_that_does_not = refl

-- a view of 16x12, two block columns of it: it marks block rows 0 to 5; of V1 it completes 0 to 3
pub v1_16x12_marks : marks 8 2 (size 16 16) (view 16 12) (0 ∷ 0 ∷ 4 ∷ 16 ∷ [])
    ≡ (0 ∷ 1 ∷ []) ∷ (0 ∷ 1 ∷ []) ∷ (0 ∷ 1 ∷ []) ∷ (0 ∷ 1 ∷ []) ∷ (0 ∷ 1 ∷ []) ∷ (0 ∷ 1 ∷ []) ∷ [] ∷ [] ∷ []
unfolding those_below columns_taken some taken_by nth main_chroma box within
v1_16x12_marks = refl

pub v1_16x12_completes : completes 8 2 V1 (size 16 16) (view 16 12) (0 ∷ 0 ∷ 4 ∷ 16 ∷ [])
    ≡ (0 ∷ 1 ∷ []) ∷ (0 ∷ 1 ∷ []) ∷ (0 ∷ 1 ∷ []) ∷ (0 ∷ 1 ∷ []) ∷ [] ∷ [] ∷ [] ∷ [] ∷ []
unfolding those_below columns_taken some taken_by nth auxiliary_in box within fed
v1_16x12_completes = refl

-- V2, a view 20 wide, so that W is 32: block columns 0 to 3
pub v2_20_completes : completes 2 10 (V2 32) (size 20 4) (view 20 4) (0 ∷ 0 ∷ 20 ∷ 4 ∷ []) ≡ (0 ∷ 1 ∷ 2 ∷ 3 ∷ []) ∷ (0 ∷ 1 ∷ 2 ∷ 3 ∷ []) ∷ []
unfolding those_below columns_taken some taken_by nth auxiliary_in box within fed
v2_20_completes = refl

-- V2, a view of 16x5: block row 2 has no row 5, and stays
pub v2_16x5_completes : completes 3 2 (V2 16) (size 16 6) (view 16 5) (0 ∷ 0 ∷ 4 ∷ 6 ∷ []) ≡ (0 ∷ 1 ∷ []) ∷ (0 ∷ 1 ∷ []) ∷ [] ∷ []
unfolding those_below columns_taken some taken_by nth auxiliary_in box within fed
v2_16x5_completes = refl

-- the 32 rule on a picture 48 wide (W 64): a view 64 wide completes all 24 block columns, the last three shown; one 48 wide the first 16
pub v2_32_completes : completes 1 24 (V2 64) (size 48 2) (view 64 2) (42 ∷ 0 ∷ 48 ∷ 2 ∷ []) ≡ (21 ∷ 22 ∷ 23 ∷ []) ∷ []
unfolding those_below columns_taken some taken_by nth auxiliary_in box within fed
v2_32_completes = refl

pub v2_32_cropped : completes 1 24 (V2 64) (size 48 2) (view 48 2) (28 ∷ 0 ∷ 48 ∷ 2 ∷ []) ≡ (14 ∷ 15 ∷ []) ∷ []
unfolding those_below columns_taken some taken_by nth auxiliary_in box within fed
v2_32_cropped = refl
