-- Sizes cross the boundary as numbers, one after the other.
--
--   sizes_of w h luma chroma     a view's width, height, luma stride and chroma stride as one value
--   size_of w h                  a picture's width and height
--   rect_of l t r b              a rectangle's left, top, right and bottom
use Rattle.std.specs.Prelude.{ℕ}
use Rattle.view.specs.declared.View.{View}
use Rattle.picture.specs.declared.Size.{Size}
use Rattle.rects.specs.declared.Rect.{Rect}

abbrev pub sizes_of : ℕ → ℕ → ℕ → ℕ → View
sizes_of w h luma chroma = record { width = w; height = h; luma_stride = luma; chroma_stride = chroma }

abbrev pub size_of : ℕ → ℕ → Size
size_of w h = record { width = w; height = h }

abbrev pub rect_of : ℕ → ℕ → ℕ → ℕ → Rect
rect_of l t r b = record { left = l; top = t; right = r; bottom = b }
