-- The three steps, sample by sample, over any layout: its maps are m, and w has the width and height of both views. Demand 3 is shown once,
-- of these steps (`agrees`).
--
--   ViewSamples           what the planes of a view hold, by row and column
--   seen_picture z p       what a split sees of three lent planes: those of the picture as if they went on past the stride, with Y 0, U and V 128
--   Extends z p p'        p' holds what p does in the padded planes: p' may be p itself, or p as if its planes went on past the stride
--   Steps m w z rects p q mid x main auxiliary      the views main and auxiliary are the split of p by the maps m, mid is the earlier picture q
--                         with main applied over the list, and x is mid with auxiliary applied
use Rattle.std.specs.Prelude.{ℕ, ◌/◌, ◌<◌, ◌≡◌, cond, ◌&&◌, List, ltb}
use Rattle.picture.specs.declared.Size.{Size}
use Rattle.picture.specs.Sizes.{stride_of, rows_of}
use Rattle.view.specs.declared.View.{View}
use Rattle.layout.specs.declared.Chroma.{Chroma}
use Rattle.layout.specs.declared.Chroma.TheVariants.{CU, CV}
use Rattle.layout.specs.Maps.{Part, PY, PU, PV, Place, Spot, Maps, place, spot, from_main, part_of}
use Rattle.layout.specs.Exists.{side, gives}
use Rattle.rects.specs.Rects.{taken}
use Rattle.apply_main.specs.Main.{main_luma}
use Rattle.split.specs.Split.{Planes, seen, pick_chroma}
use Rattle.agree_law.specs.Agrees.{Picture, widened}

abbrev pub ViewSamples : Type 0
ViewSamples = Part → ℕ → ℕ → ℕ

-- the sample at a place, or at a spot
abbrev pub at_place : Picture → Place → ℕ
at_place p l = p.chroma l.plane l.row l.col

abbrev pub at_spot : ViewSamples → Spot → ℕ
at_spot v s = v s.part s.row s.col

-- what the main view of a picture holds, and the auxiliary view
abbrev pub main_view : Picture → ViewSamples
main_view p PY r c = p.luma r c
main_view p PU r c = at_place p (from_main CU r c)
main_view p PV r c = at_place p (from_main CV r c)

abbrev pub auxiliary_view : Maps → Picture → ViewSamples
auxiliary_view m p q r c = at_place p (m.place (spot q r c))

abbrev pub seen_picture : Size → Planes → Picture
seen_picture z p = record { luma = seen 0 p.y (stride_of z); chroma = λ k. seen 128 (pick_chroma k p.u p.v) (stride_of z) }

pub record Extends (z : Size) (p p' : Picture) : Type 0 where
  pub luma : (r c : ℕ) → r < rows_of z → c < stride_of z → p'.luma r c ≡ p.luma r c
  pub chroma : (k : Chroma) (r c : ℕ) → r < rows_of z → c < stride_of z → p'.chroma k r c ≡ p.chroma k r c

pub record Steps (m : Maps) (w : View) (z : Size) (rects : List ℕ) (p q mid x : Picture) (main auxiliary : ViewSamples) : Type 0 where
  pub main_is : (t : Part) (r c : ℕ) → r < side t w.height → c < side t w.width → main t r c ≡ main_view p t r c
  pub auxiliary_is : (t : Part) (r c : ℕ) → r < side t w.height → c < side t w.width → auxiliary t r c ≡ auxiliary_view m p t r c
  pub main_luma_lem : (r c : ℕ) → r < rows_of z → c < stride_of z → mid.luma r c ≡ cond (taken (main_luma z w) rects r c) (main PY r c) (q.luma r c)
  pub main_chroma_lem : (k : Chroma) (r c : ℕ) → r < rows_of z → c < stride_of z
      → mid.chroma k r c ≡ cond (widened z rects r c && (ltb r w.height && ltb c w.width)) (main (part_of k) (r / 2) (c / 2)) (q.chroma k r c)
  pub auxiliary_luma : (r c : ℕ) → r < rows_of z → c < stride_of z → x.luma r c ≡ mid.luma r c
  pub auxiliary_chroma : (k : Chroma) (r c : ℕ) → r < rows_of z → c < stride_of z
      → x.chroma k r c ≡ cond (widened z rects r c && gives m w.width w.height r c) (at_spot auxiliary (m.spot (place k r c))) (mid.chroma k r c)
