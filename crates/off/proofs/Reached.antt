-- The bounds are met: by either matrix a picture of 8 columns and 4 rows has a block for each of them, in U and in V. So no smaller numbers would do.
-- Assumes nothing.
use Prim.Native.Nat.{ℕ, ◌+◌, ◌%◌, ◌≤◌, ◌<◌}
use native.Mathlib.Omega.{arith}
use mathlib.Core.Path.{◌≡◌, refl, ap, ◌∙◌}
use mathlib.Core.Bool.{Bool, true, false}
use mathlib.Core.Logic.{◌↔◌}
use mathlib.Core.List.{List, [], ◌∷◌, ◌++◌}
use lib.ListN.{get_or, replicate}
use Rattle.lent.specs.Outcome.{answer_of}
use Rattle.layout.specs.declared.Chroma.{Chroma}
use Rattle.layout.specs.declared.Chroma.TheVariants.{CU, CV}
use Rattle.colour.specs.Colour.{luma_whole, chroma_u_whole, chroma_v_whole, luma_of, chroma_u_of, chroma_v_of, forward_of, reversed, filtered_of, filter_of, applied_of, applied_in, undone_in}
use Rattle.colour.specs.Limited.{limited_forward_of, limited_luma_whole, limited_u_whole, limited_v_whole}
use Rattle.colour.specs.declared.Matrix.{Matrix}
use Rattle.colour.specs.declared.Matrix.TheVariants.{Full, Limited}
use Rattle.colour.specs.declared.Undone.{Undone}
use Rattle.picture.specs.declared.Size.{Size}
use Rattle.picture.specs.Sizes.{planes_short}
use Rattle.from_rgba.specs.declared.edges.Edge.{Edge}
use Rattle.from_rgba.specs.Rows.{colour_at}
use Rattle.from_rgba.specs.FromRgba.{converted_of, from_buffers_of, FromRgbaOutcome}
use Rattle.to_rgba_rows.specs.Rules.{chroma_at, filtered_at}
use Rattle.off.specs.Off.{below, above, applied_below, applied_above, Near, Off, chroma_of, before_of, left_of, Bounds}
use Rattle.off.proofs.Blocks.{averaged_block}
use Rattle.off.proofs.Planes.{block_at}
use Rattle.off.proofs.Calls.{left_answer, left_applied, colours_off, before_own}

abbrev size : Size
size = record { width = 8; height = 4 }

abbrev rgba : ℕ → ℕ → ℕ → List ℕ
rgba r g b = r ∷ g ∷ b ∷ 255 ∷ []

-- colours by their U, and by their V: the smallest that the matrix has, and one more
abbrev u0 : List ℕ
u0 = rgba 255 255 0

abbrev u1 : List ℕ
u1 = rgba 250 255 0

abbrev v0 : List ℕ
v0 = rgba 0 255 255

abbrev v1 : List ℕ
v1 = rgba 0 255 240

-- A block has two pixels in its upper row, and below them two whose sample is the smallest. Above it the first block has 40 beside 1, the second 0
-- beside 122, the third 1 beside 120, the last 0 beside 126. Rows 0 and 1 are for U, rows 2 and 3 for V.
abbrev rows : (a b c d a' b' c' d' : List ℕ) → List ℕ
rows a b c d a' b' c' d' =
    a ++ u1 ++ u0 ++ b ++ u1 ++ c ++ u0 ++ d
    ++ u0 ++ u0 ++ u0 ++ u0 ++ u0 ++ u0 ++ u0 ++ u0
    ++ a' ++ v1 ++ v0 ++ b' ++ v1 ++ c' ++ v0 ++ d'
    ++ v0 ++ v0 ++ v0 ++ v0 ++ v0 ++ v0 ++ v0 ++ v0

abbrev pixels : Matrix → List ℕ
pixels Full =
    rows (rgba 255 255 80) (rgba 255 250 240) (rgba 255 255 240) (rgba 255 245 245) (rgba 80 255 245) (rgba 240 255 205) (rgba 240 255 245) (rgba 250 255 225)
pixels Limited =
    rows (rgba 255 255 90) (rgba 255 220 255) (rgba 255 220 250) (rgba 255 205 255) (rgba 90 255 255) (rgba 255 255 115) (rgba 255 255 145) (rgba 255 255 60)

-- the smallest U and V
abbrev least : Matrix → ℕ
least Full = 0
least Limited = 16

-- a block whose upper samples are x and s above the smallest
abbrev block : Matrix → ℕ → ℕ → List ℕ
block m x s = (least m + x) ∷ (least m + s) ∷ least m ∷ least m ∷ []

abbrev room : List ℕ
room = replicate 256 0

-- the upper row of a plane's four blocks
abbrev row_of : Chroma → ℕ
row_of CU = 0
row_of CV = 2

row_facts : (k : Chroma) → (row_of k + 1 < 4) × (row_of k % 2 ≡ 0)
row_facts CU = (omega arith, refl)
row_facts CV = (omega arith, refl)

-- U or V of the picture's colours
abbrev coloured : Matrix → Chroma → ℕ → ℕ → ℕ
coloured m k r c = chroma_of k (converted_of m (pixels m) size r c)

blocks : (m : Matrix) (k : Chroma)
    → (block_at (coloured m k) (row_of k) 0 ≡ block m 40 1)
    × (block_at (coloured m k) (row_of k) 2 ≡ block m 0 122)
    × (block_at (coloured m k) (row_of k) 4 ≡ block m 1 120)
    × (block_at (coloured m k) (row_of k) 6 ≡ block m 0 126)
unfolding colour_at forward_of luma_of chroma_u_of chroma_v_of luma_whole chroma_u_whole chroma_v_whole limited_forward_of limited_luma_whole limited_u_whole limited_v_whole
blocks Full CU = (refl, refl, refl, refl)
blocks Full CV = (refl, refl, refl, refl)
blocks Limited CU = (refl, refl, refl, refl)
blocks Limited CV = (refl, refl, refl, refl)

-- what the filter answers for such a block, f above the smallest, and whether it was applied
abbrev Says : Matrix → ℕ → ℕ → ℕ → Bool → Type 0
Says m x s f t = undone_in (averaged_block (block m x s)) ≡ record { value = least m + f; applied = t }

-- 40 beside 1 gives 10, 30 below it; 0 beside 122 gives 31, 31 above; applied, 1 beside 120 gives 0, 1 below it; 0 beside 126 gives 2, 2 above
says : (m : Matrix) → Says m 40 1 10 false × Says m 0 122 31 false × Says m 1 120 0 true × Says m 0 126 2 true
unfolding filtered_of applied_of reversed
says Full = (refl, refl, refl, refl)
says Limited = (refl, refl, refl, refl)

ends : (m : Matrix) (e : Edge) → FromRgbaOutcome m e (pixels m) size room room room (answer_of 0 0) (from_buffers_of m e (pixels m) size room room room)
unfolding planes_short
ends Full e = record { answer = refl; buffers = refl }
ends Limited e = record { answer = refl; buffers = refl }

module _ (m : Matrix) (e : Edge) (k : Chroma) (b a b' a' : ℕ) (bounds : Bounds m e k b a b' a') where
  abbrev left : List ℕ
  left = left_of k (from_buffers_of m e (pixels m) size room room room)

  -- a block of the picture, for which the filter answers f, and t says whether it was applied
  module _ (c x s f : ℕ) (t : Bool) (hc : c + 1 < 8) (even-c : c % 2 ≡ 0) (given : block_at (coloured m k) (row_of k) c ≡ block m x s) (said : Says m x s f t) where
    block_is : block_at (before_of m k e size (pixels m)) (row_of k) c ≡ block m x s
    block_is =
        let row = (row_facts k).0 in
        let own : (r c : ℕ) → r < 4 → c < 8 → before_of m k e size (pixels m) r c ≡ coloured m k r c = before_own m e k size (pixels m) in
        (λ i.
        own (row_of k) c (omega arith) (omega arith) i
        ∷ own (row_of k) (c + 1) (omega arith) hc i
        ∷ own (row_of k + 1) c row (omega arith) i
        ∷ own (row_of k + 1) (c + 1) row hc i
        ∷ [])
        ∙ given

    -- what holds of every even-even sample, of the block's
    abbrev here : {A : ℕ → ℕ → Type 0} → ((r c : ℕ) → r < 16 → c < 16 → r % 2 ≡ 0 → c % 2 ≡ 0 → A r c) → A (row_of k) c
    here law = law (row_of k) c (omega (arith, (row_facts k).0)) (omega arith) (row_facts k).1 even-c

    first_is : before_of m k e size (pixels m) (row_of k) c ≡ least m + x
    first_is = ap (λ (l : List ℕ). get_or l 0 0) block_is

    answer_is : chroma_at left 16 (row_of k) c ≡ least m + f
    answer_is =
        here (left_answer m e k (pixels m) size room room room _ _ (ends m e) refl)
        ∙ ap (λ (l : List ℕ). filter_of (averaged_block l)) block_is
        ∙ ap (λ (w : Undone). w.value) said

    applied_is : filtered_at left 16 (row_of k) c ≡ t
    applied_is =
        here (left_applied m e k (pixels m) size room room room _ _ (ends m e) refl)
        ∙ ap (λ (l : List ℕ). applied_in (averaged_block l)) block_is
        ∙ ap (λ (w : Undone). w.applied) said

    bounded : Off b a b' a' (before_of m k e size (pixels m)) left 16 (row_of k) c
    bounded = here (bounds.off (pixels m) size room room room _ _ (ends m e) refl)

    answer_near : Near b a (least m + x) (least m + f)
    answer_near = rw (first_is, answer_is) at bounded.answer

    applied_near : t ≡ true → Near b' a' (least m + x) (least m + f)
    applied_near e = rw (first_is, answer_is) at (bounded.applied (applied_is ∙ e))

  pub least_below : below ≤ b
  least_below = omega (arith, (answer_near 0 40 1 10 false (omega arith) refl (blocks m k).0 (says m).0).low)

  pub least_above : above ≤ a
  least_above = omega (arith, (answer_near 2 0 122 31 false (omega arith) refl (blocks m k).1 (says m).1).high)

  pub least_applied_below : applied_below ≤ b'
  least_applied_below = omega (arith, (applied_near 4 1 120 0 true (omega arith) refl (blocks m k).2 (says m).2 refl).low)

  pub least_applied_above : applied_above ≤ a'
  least_applied_above = omega (arith, (applied_near 6 0 126 2 true (omega arith) refl (blocks m k).3 (says m).3 refl).high)

-- the bounds are these numbers, and no others but larger ones
pub bounds_exactly : (m : Matrix) (e : Edge) (k : Chroma) (b a b' a' : ℕ) → Bounds m e k b a b' a' ↔ ((below ≤ b) × (above ≤ a) × (applied_below ≤ b') × (applied_above ≤ a'))
bounds_exactly m e k b a b' a' = (
  λ w. (least_below m e k b a b' a' w, least_above m e k b a b' a' w, least_applied_below m e k b a b' a' w, least_applied_above m e k b a b' a' w),
  λ at_least_lem. record {
    off = λ px z y u v n bs ends none r c hr hc even-r even-c.
        let o = (colours_off m e k).off px z y u v n bs ends none r c hr hc even-r even-c in record {
          answer = wider o.answer at_least_lem.0 at_least_lem.1;
          applied = λ t. wider (o.applied t) at_least_lem.2 at_least_lem.3;
        };
  },
)
  where
    wider : {b a b' a' x f : ℕ} → Near b a x f → b ≤ b' → a ≤ a' → Near b' a' x f
    wider near hb ha = record { low = omega (arith, near.low); high = omega (arith, near.high) }
