-- Picture to RGBA: what the code works out is what the size and the rectangle say, and a rectangle that is not empty lies inside the
-- planes of a call that is not refused; how many samples were filtered, row by row.
-- Assumes nothing.
use Prim.Native.Nat.{ℕ, ◌+◌, ◌*◌, ◌<◌, ◌≤◌, min}
use native.Mathlib.Nat.{eq-zero-or-pos, mul_comm, mul-zero, zero-mul}
use native.Mathlib.Omega.{arith}
use mathlib.Core.Path.{◌≡◌, sym, ap, ◌∙◌}
use mathlib.Core.Logic.{◌↔◌, ◌⊎◌, inl, inr, ⊎_elim}
use mathlib.Core.List.{List}
use Rattle.lent.proofs.Cells.{row_in}
use Rattle.lent.proofs.Counts.{total-one, total_low, count_low}
use Rattle.picture.specs.declared.Size.{Size}
use Rattle.picture.specs.Sizes.{stride_of, rows_of}
use Rattle.picture.proofs.Sizes.{planes_fit}
use Rattle.rects.specs.declared.Rect.{Rect}
use Rattle.to_rgba.specs.Pictured.{pictured, shifted}
use Rattle.to_rgba_rows.specs.Rules.{filtered_at, row_filtered_of, pixel_at}
use Rattle.to_rgba.specs.Picture.{across_of, down_of, to_rgba_count_of, filtered_rows_of, filtered_in, to_rgba_number_of, to_rgba_of}
use Rattle.to_rgba_rows.specs.Fits.{PixelRowsFit}
use Rattle.to_rgba.proofs.Pictured.{bytes_of, some_column, some_row, pictured_empty}
use Rattle.to_rgba.proofs.Exactly.{rgba_0_exactly, rgba_6_exactly}

-- ---- filtered samples of one plane, in rows of n columns

module _ (stride left top n : ℕ) where
  filtered_low : (h : ℕ) (p : List ℕ) → filtered_rows_of stride left top n h p ≤ h * n
  filtered_low h p = total_low h n _ (λ r lt. count_low n (λ c. filtered_at p stride (top + r) (left + c)))

  -- a row more is counted; the count is at most the bytes of the output
  pub filtered_more : (h r out : ℕ) → r < h → h * (4 * n) ≤ out → (p : List ℕ) (was more : ℕ)
      → was ≡ filtered_rows_of stride left top n r p → more ≡ row_filtered_of stride (top + r) left n p
      → (was + more ≤ out) × (was + more ≡ filtered_rows_of stride left top n (r + 1) p)
  filtered_more h r out lt room p was more before now = (
    omega (arith, filtered_low r p, count_low n (λ c. filtered_at p stride (top + r) (left + c)), row_in n h r lt, bytes_of n h, mul_comm n h),
    (λ i. before i + now i) ∙ total-one r _,
  )

-- ---- the rectangle

module _ (z : Size) (q : Rect) {n h : ℕ} (across : n ≡ across_of z q) (down : h ≡ down_of z q) where
  pub counted : 4 * (n * h) ≡ to_rgba_count_of z q
  counted = λ i. 4 * (across i * down i)

  pub numbered : {number : ℕ} (ny nu nv nout : ℕ) → number ≡ to_rgba_number_of z (4 * (n * h)) ny nu nv nout → number ≡ to_rgba_number_of z (to_rgba_count_of z q) ny nu nv nout
  numbered ny nu nv nout e = e ∙ ap (λ (k : ℕ). to_rgba_number_of z k ny nu nv nout) counted

  module _ {stride : ℕ} (wide : stride ≡ stride_of z) where
    pub written : (y u v out : List ℕ) → pictured n h (shifted q.top q.left (pixel_at stride y u v)) out ≡ to_rgba_of z y u v q out
    unfolding to_rgba_of
    written y u v out = λ i. pictured (across i) (down i) (shifted q.top q.left (pixel_at (wide i) y u v)) out

    pub filtered_is : (p : List ℕ) → filtered_rows_of stride q.left q.top n h p ≡ filtered_in z q p
    unfolding filtered_in
    filtered_is p = λ i. filtered_rows_of (wide i) q.left q.top (across i) (down i) p

    pub rows_fit : {rows number : ℕ} → rows ≡ rows_of z → (ny nu nv nout : ℕ) → number ≡ to_rgba_number_of z (4 * (n * h)) ny nu nv nout → number ≡ 0 → 0 < 4 * (n * h) → n < 65536
        → PixelRowsFit nout ny nu nv stride rows q.left q.top n h
    rows_fit high ny nu nv nout is none some small =
        let free = (rgba_0_exactly z (4 * (n * h)) ny nu nv nout).0 (sym is ∙ none) in
        let planes = planes_fit z ny nu nv free.0 in
        let right = some_column n h some in
        let below = some_row n h some in
        record {
          room = omega (arith, bytes_of n h);
          some = right;
          small = small;
          inside = omega arith;
          below = omega arith;
          y_fits = rw (high, wide) planes.y_fits;
          u_fits = rw (high, wide) planes.u_fits;
          v_fits = rw (high, wide) planes.v_fits;
          even_stride = omega arith;
          even_rows = omega arith;
        }

-- an empty, a reversed or an off-picture rectangle has count 0, and no other has; it is never refused with 6, changes no byte and
-- filters no sample
module _ (z : Size) (q : Rect) where
  pub empty_exactly : (to_rgba_count_of z q ≡ 0) ↔ ((min q.right z.width ≤ q.left) ⊎ (min q.bottom z.height ≤ q.top))
  empty_exactly = (
    λ e. ⊎_elim
        (λ none. inl (omega arith))
        (λ some. ⊎_elim (λ none. inr (omega arith)) (λ some'. absurd (omega (arith, row_in (down_of z q) (across_of z q) 0 some))) (eq-zero-or-pos (down_of z q)))
        (eq-zero-or-pos (across_of z q)),
    ⊎_elim
        (λ h. let none : across_of z q ≡ 0 = omega arith in ap (λ (n : ℕ). 4 * (n * down_of z q)) none ∙ (omega (arith, zero-mul (down_of z q))))
        (λ h. let none : down_of z q ≡ 0 = omega arith in ap (λ (n : ℕ). 4 * (across_of z q * n)) none ∙ (omega (arith, mul-zero (across_of z q)))),
  )

  module _ (empty : to_rgba_count_of z q ≡ 0) where
    pub empty_never_6 : (ny nu nv nout : ℕ) → to_rgba_number_of z (to_rgba_count_of z q) ny nu nv nout ≡ 6 → ⊥
    empty_never_6 ny nu nv nout e = omega (arith, ((rgba_6_exactly z (to_rgba_count_of z q) ny nu nv nout).0 e).1)

    pub empty_unchanged : (y u v out : List ℕ) → out ≡ to_rgba_of z y u v q out
    unfolding to_rgba_of
    empty_unchanged y u v out = pictured_empty (across_of z q) (down_of z q) _ out empty

    pub empty_unfiltered : (p : List ℕ) → 0 ≡ filtered_in z q p
    unfolding filtered_in
    empty_unfiltered p = omega (arith, filtered_low (stride_of z) q.left q.top (across_of z q) (down_of z q) p, mul_comm (across_of z q) (down_of z q))
