-- Document 01's empty rectangle (5,0,5,4) on a 5x5 picture with a 16x16 view, by computation over the whole plane: it takes chroma
-- columns 4 and 5 of rows 0 to 3, and no luma.
-- Assumes nothing.
use mathlib.Core.Path.{◌≡◌, refl}
use mathlib.Core.Bool.{false}
use mathlib.Core.List.{[], ◌∷◌}
use Rattle.lent.specs.Paint.{within, box, up_to}
use Rattle.picture.specs.declared.Size.{Size}
use Rattle.view.specs.declared.View.{View}
use Rattle.apply_main.specs.Columns.{those_below, columns_taken}
use Rattle.apply_main.specs.Main.{main_luma, main_chroma}

abbrev size5 : Size
size5 = record { width = 5; height = 5 }

abbrev view16 : View
view16 = record { width = 16; height = 16; luma_stride = 16; chroma_stride = 8 }

pub odd_edge_chroma : columns_taken 16 16 (main_chroma size5 view16 5 0 5 4)
    ≡ (4 ∷ 5 ∷ []) ∷ (4 ∷ 5 ∷ []) ∷ (4 ∷ 5 ∷ []) ∷ (4 ∷ 5 ∷ []) ∷ [] ∷ [] ∷ [] ∷ [] ∷ [] ∷ [] ∷ [] ∷ [] ∷ [] ∷ [] ∷ [] ∷ [] ∷ []
unfolding main_chroma box within those_below columns_taken
odd_edge_chroma = refl

pub odd_edge_luma : columns_taken 16 16 (main_luma size5 view16 5 0 5 4) ≡ columns_taken 16 16 (λ r c. false)
unfolding main_luma up_to box within those_below columns_taken
odd_edge_luma = refl
