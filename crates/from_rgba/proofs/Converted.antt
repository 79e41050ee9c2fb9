-- The pixels of the picture, row after row, into one plane: what a row's part of the input says of the whole input, and one row more. All of it
-- by either matrix: nothing here asks what the forward formula is.
-- Assumes nothing.
use Prim.Native.Nat.{ℕ, ◌+◌, ◌*◌, ◌/◌, ◌-◌, ◌<◌, ◌≤◌}
use native.Mathlib.Nat.{add-zero, zero-add, mul_comm}
use native.Mathlib.Omega.{arith}
use mathlib.Core.Path.{◌≡◌, refl, sym, ap, ◌∙◌, subst}
use mathlib.Core.List.{List, ◌++◌}
use lib.ListN.{length, get_or, take, drop}
use lib.Seq.{get_or-take, get_or-drop}
use Rattle.lent.specs.Paint.{paint, painted, every, up_to}
use Rattle.lent.proofs.Cells.{row_in}
use Rattle.lent.proofs.Paint.{get_d_paint, paint_ext}
use Rattle.lent.proofs.Painted.{length_painted}
use Rattle.lent.proofs.Rows.{rows_none, rows_all}
use Rattle.lent.proofs.SoFar.{SoFar, so_far_all}
use Rattle.colour.specs.Limited.{forward_by}
use Rattle.colour.specs.declared.Matrix.{Matrix}
use Rattle.colour.specs.declared.Yuv.{Yuv}
use Rattle.from_rgba.specs.Rows.{colour_at, colour_apart, inside, line_of, line_painted, PixelsFit}
use Rattle.lent.proofs.ByPart.{part_long, so_far_part}
use Rattle.lent.proofs.PartRows.{part_more}
use Rattle.from_rgba.proofs.Padding.{inside_row, inside_facts}

-- pixel k of the part that starts at pixel `first`
pub part_colour : (m : Matrix) (px : List ℕ) (first at n k : ℕ) → at ≡ 4 * first → 4 * k + 4 ≤ n → colour_at m (take n (drop at px)) k ≡ colour_at m px (first + k)
unfolding colour_at
part_colour m px first at n k at-is h =
    λ i. forward_by m (byte (4 * k) (4 * (first + k)) (omega arith) (omega arith) i) (byte (4 * k + 1) (4 * (first + k) + 1) (omega arith) (omega arith) i) (byte (4 * k + 2) (4 * (first + k) + 2) (omega arith) (omega arith) i)
  where
    byte : (j p : ℕ) → j < n → at + j ≡ p → get_or (take n (drop at px)) j 0 ≡ get_or px p 0
    byte j p lt e = get_or-take n (drop at px) j 0 lt ∙ get_or-drop at px j 0 ∙ ap (λ (q : ℕ). get_or px q 0) e

-- n pixels that were taken apart, converted and written, each step through arrays of n bytes
pub apart_back : (m : Matrix) (px r g b p xs : List ℕ) (n : ℕ) (pick : Yuv → ℕ) {rs gs bs ps ys : List ℕ} → length r ≡ n → length g ≡ n → length b ≡ n → length p ≡ n → length xs ≡ n
    → rs ≡ paint every (λ k. get_or px (4 * k) 0) r → gs ≡ paint every (λ k. get_or px (4 * k + 1) 0) g → bs ≡ paint every (λ k. get_or px (4 * k + 2) 0) b
    → ps ≡ paint every (λ k. pick (colour_apart m rs gs bs k)) p
    → ys ≡ paint every (λ k. get_or ps k 0) xs
    → ys ≡ paint every (λ k. pick (colour_at m px k)) xs
unfolding colour_at
apart_back m px r g b p xs n pick hr hg hb hp long red green blue now back =
    back
    ∙ paint_ext every every _ _ xs (λ k h. refl)
    (λ k h t. ap (λ (l : List ℕ). get_or l k 0) now
    ∙ get_d_paint every _ p k (omega arith)
    ∙ (λ i. pick (forward_by m
    ((ap (λ (l : List ℕ). get_or l k 0) red ∙ get_d_paint every _ r k (omega arith)) i)
    ((ap (λ (l : List ℕ). get_or l k 0) green ∙ get_d_paint every _ g k (omega arith)) i)
    ((ap (λ (l : List ℕ). get_or l k 0) blue ∙ get_d_paint every _ b k (omega arith)) i))))

-- the parts that a pass over n pixels is lent fit each other
pub row_fits : (px y u v : List ℕ) (at to line ey eu ev n : ℕ) → to ≡ at + 4 * n → to ≤ length px → ey ≡ line + n → ey ≤ length y → eu ≡ line + n → eu ≤ length u → ev ≡ line + n → ev ≤ length v
    → PixelsFit (length (take (to - at) (drop at px))) (length (take (ey - line) (drop line y))) (length (take (eu - line) (drop line u))) (length (take (ev - line) (drop line v)))
row_fits px y u v at to line ey eu ev n to_is hp ey-is hy eu-is hu ev-is hv =
    rw (part_long px at to (omega arith) hp, part_long y line ey (omega arith) hy, part_long u line eu (omega arith) hu, part_long v line ev (omega arith) hv)
    (record { pixels = omega arith; same_u = omega arith; same_v = omega arith })

-- the parts of a row's pass: 16 pixels, and those that are left
module _ (px y₀ u₀ v₀ y u v : List ℕ) (fit : PixelsFit (length px) (length y₀) (length u₀) (length v₀)) (hy : length y ≡ length y₀) (hu : length u ≡ length u₀) (hv : length v ≡ length v₀) where
  pub turn_fits : (k : ℕ) → k + 16 ≤ length y₀
      → PixelsFit (length (take (4 * (k + 16) - 4 * k) (drop (4 * k) px))) (length (take (k + 16 - k) (drop k y))) (length (take (k + 16 - k) (drop k u))) (length (take (k + 16 - k) (drop k v))) × (length (take (k + 16 - k) (drop k y)) ≡ 16)
  turn_fits k le = (
    row_fits px y u v (4 * k) (4 * (k + 16)) k (k + 16) (k + 16) (k + 16) 16 (omega arith) (omega arith) refl (omega arith) refl (omega arith) refl (omega arith),
    part_long y k (k + 16) (omega arith) (omega arith) ∙ omega arith,
  )

  pub rest_fits : (a : ℕ) → a ≡ length y₀ / 16 * 16
      → PixelsFit (length (take (length px - 4 * a) (drop (4 * a) px))) (length (take (length y - a) (drop a y))) (length (take (length u - a) (drop a u))) (length (take (length v - a) (drop a v)))
  rest_fits a is =
      row_fits px y u v (4 * a) (length px) a (length y) (length u) (length v) (length y - a) (omega arith) (omega arith) (omega arith) (omega arith) (omega arith) (omega arith) (omega arith) (omega arith)

-- one sample of a row of n pixels, of which the first k are converted
module _ (m : Matrix) (px xs : List ℕ) (n : ℕ) (pick : Yuv → ℕ) (long : length xs ≡ n) (pixels : length px ≡ 4 * n) where
  -- the pixels from a to below e were lent, converted and came back
  pixels_more : {was ys : List ℕ} (a e to : ℕ) → a ≤ e → e ≤ n → 4 * e ≤ to → SoFar (λ j. pick (colour_at m px j)) xs was a
      → ys ≡ paint every (λ j. pick (colour_at m (take (to - 4 * a) (drop (4 * a) px)) j)) (take (e - a) (drop a was))
      → SoFar (λ j. pick (colour_at m px j)) xs (take a was ++ (ys ++ drop (e - a) (drop a was))) e
  pixels_more a e to ordered fits read before now =
      so_far_part _ xs a e _ ordered (omega arith) before now (λ j h. ap pick (part_colour m px a (4 * a) (to - 4 * a) j refl (omega arith)))

  -- 16 of them
  pub pixels_turn : {was ys : List ℕ} (k e : ℕ) → k + 16 ≡ e → e ≤ n → SoFar (λ j. pick (colour_at m px j)) xs was k
      → ys ≡ paint every (λ j. pick (colour_at m (take (4 * (k + 16) - 4 * k) (drop (4 * k) px)) j)) (take (k + 16 - k) (drop k was))
      → SoFar (λ j. pick (colour_at m px j)) xs (take k was ++ (ys ++ drop (k + 16 - k) (drop k was))) e
  pixels_turn {was} {ys} k e is le before now =
      subst (λ (q : ℕ). SoFar (λ j. pick (colour_at m px j)) xs (take k was ++ (ys ++ drop (k + 16 - k) (drop k was))) q) is
      (pixels_more k (k + 16) (4 * (k + 16)) (omega arith) (omega arith) (omega arith) before now)

  -- those that are left
  pub pixels_rest : {was ys : List ℕ} (k a : ℕ) → a ≡ n / 16 * 16 → k ≤ a → a ≤ k → SoFar (λ j. pick (colour_at m px j)) xs was k
      → ys ≡ paint every (λ j. pick (colour_at m (take (length px - 4 * a) (drop (4 * a) px)) j)) (take (length was - a) (drop a was))
      → take a was ++ (ys ++ drop (length was - a) (drop a was)) ≡ paint every (λ j. pick (colour_at m px j)) xs
  pixels_rest {was} k a a-is le ge before now =
      let k-is : k ≡ a = omega arith in
      let all : length was ≡ n = before.0 ∙ long in
      so_far_all _ xs (length was) (pixels_more a (length was) (length px) (omega arith) (omega arith) (omega arith) (rw k-is at before) now) (omega arith)

-- row `row` of the input is within it
pub pixels_in : (width height row n : ℕ) → width * height * 4 ≤ n → row < height → 4 * (row * width) + 4 * width ≤ n
pixels_in width height row n fits h = omega (arith, row_in width height row h, mul_comm width height)

-- the parts that were lent have come back, and hold the converted pixels
pub line_back : (m : Matrix) (px xs : List ℕ) (at n a : ℕ) (pick : Yuv → ℕ) {ys : List ℕ}
    → ys ≡ paint every (λ k. pick (colour_at m (take (at + 4 * n - at) (drop at px)) k)) (take (a + n - a) (drop a xs))
    → take a xs ++ (ys ++ drop (a + n - a) (drop a xs)) ≡ line_painted a n (λ k. pick (colour_at m (line_of px at n) k)) xs
line_back m px xs at n a pick now =
    let p : at + 4 * n - at ≡ 4 * n = omega arith in
    let q : a + n - a ≡ n = omega arith in
    ap (λ (ys : List ℕ). take a xs ++ (ys ++ drop (a + n - a) (drop a xs))) now
    ∙ (λ i. take a xs ++ (paint every (λ k. pick (colour_at m (take (p i) (drop at px)) k)) (take (q i) (drop a xs)) ++ drop (q i) (drop a xs)))

-- the picture's places of the rows below `row` hold s, all else is as it was
abbrev pub RowsSoFar : ℕ → ℕ → ℕ → ℕ → (ℕ → ℕ → ℕ) → List ℕ → List ℕ → ℕ → Type 0
RowsSoFar w h width height s xs ys row = (length ys ≡ length xs) × (ys ≡ painted w h (up_to (inside width height) row) s xs)

module _ (w h width height : ℕ) (s : ℕ → ℕ → ℕ) (xs : List ℕ) where
  pub rows_so_far_none : RowsSoFar w h width height s xs xs 0
  rows_so_far_none = (refl, rows_none w h (inside width height) s xs 0 (λ r c e. omega arith))

  pub rows_so_far_next : {was ys : List ℕ} (row : ℕ) (u : ℕ → ℕ) → h * w ≤ length xs → width ≤ w → height ≤ h → row < height
      → ((j : ℕ) → j < width → u j ≡ s row j)
      → RowsSoFar w h width height s xs was row → ys ≡ line_painted (row * w) width u was
      → RowsSoFar w h width height s xs ys (row + 1)
  rows_so_far_next {was} row u fits narrow low lt from before now =
      let q : width ≡ row * w + width - row * w = omega arith in
      let done =
      part_more w h (inside width height) s xs fits row 0 width (row * w) (row * w + width) u (omega arith) (omega arith) narrow (sym (add-zero (row * w))) refl
      (λ c hc. inside_row width height row c lt)
      (λ j hj. from j (omega arith) ∙ ap (s row) (sym (zero-add j)))
      before.1 refl
      (now ∙ (λ i. take (row * w) was ++ (paint every u (take (q i) (drop (row * w) was)) ++ drop (q i) (drop (row * w) was)))) in
      (ap length done ∙ length_painted w h _ s xs, done)

  pub rows_so_far_all : {ys : List ℕ} (row : ℕ) → RowsSoFar w h width height s xs ys row → height ≤ row → ys ≡ painted w h (inside width height) s xs
  rows_so_far_all row f end = f.1 ∙ rows_all w h (inside width height) s xs row (λ r c hr hc e. omega (arith, inside_facts width height r c e))
