-- A row of a picture part by part: what a part's pixels are by the rule that makes a pixel, and that a part more of them is written.
-- Assumes nothing.
use Prim.Native.Nat.{ℕ, ◌+◌, ◌*◌, ◌/◌, ◌%◌, ◌-◌, ◌<◌, ◌≤◌}
use native.Mathlib.Nat.{zero-add}
use native.Mathlib.Omega.{arith}
use mathlib.Core.Path.{◌≡◌, sym, ap, ◌∙◌}
use mathlib.Core.Bool.{false, ◌&&◌}
use mathlib.Core.Logic.{⊎_elim}
use mathlib.Core.List.{List, [], ◌∷◌, ◌++◌}
use lib.Dec.{ltb, eqb}
use lib.ListN.{length, get_or, take, drop}
use borrow.Author.Tests.{lt-ltb, eq-eqb, eqb-true}
use Rattle.colour.specs.Colour.{reverse_of, filter_of}
use Rattle.lent.specs.Paint.{paint, every}
use Rattle.lent.specs.Pixels.{bytes, done}
use Rattle.lent.proofs.Bools.{split, never_true, cond-true, cond-false}
use Rattle.lent.proofs.ByPart.{so_far_part}
use Rattle.lent.proofs.Paint.{length-paint, get_d_paint}
use Rattle.to_rgba_rows.specs.Rules.{corners_at, pixel_at, row_from, plain_from, smooth_from}
use Rattle.to_rgba_rows.proofs.Rules.{plain_pixel, smooth_pixel, odd_col_off}
use Rattle.to_rgba_rows.proofs.Shading.{part_ext}

-- ---- parts of any row

-- the m pixels of f from k on were lent as a part, written whole as g, and came back
done_part : (f g : ℕ → List ℕ) (xs : List ℕ) {was ys : List ℕ} (k m : ℕ) → 4 * (k + m) ≤ length xs → was ≡ done f k xs
    → ys ≡ paint every (bytes g) (take (4 * (k + m) - 4 * k) (drop (4 * k) was))
    → ((i : ℕ) → i < m → g i ≡ f (k + i))
    → take (4 * k) was ++ (ys ++ drop (4 * (k + m) - 4 * k) (drop (4 * k) was)) ≡ done f (k + m) xs
unfolding bytes
done_part f g xs k m fits before now same =
    (so_far_part (bytes f) xs (4 * k) (4 * (k + m)) (bytes g) (omega arith) fits (ap length before ∙ length-paint _ _ xs, before) now
    (λ j h. let q : k + j / 4 ≡ (4 * k + j) / 4 = omega arith in
    let r : j % 4 ≡ (4 * k + j) % 4 = omega arith in
    ap (λ (p : List ℕ). get_or p (j % 4) 0) (same (j / 4) (omega arith)) ∙ (λ t. get_or (f (q t)) (r t) 0))
    ).1

-- ---- a row of chroma, filtered

module _ (p : List ℕ) (at below k : ℕ) where
  smooth_even : k % 2 ≡ 0 → smooth_from p at below k ≡ filter_of (corners_at p (at + k) (below + k))
  unfolding smooth_from
  smooth_even even = cond-true _ _ _ (eq-eqb (k % 2) 0 even)

  smooth_odd : k % 2 ≡ 1 → smooth_from p at below k ≡ get_or p (at + k) 0
  unfolding smooth_from
  smooth_odd odd = cond-false _ _ _ (never_true (eqb (k % 2) 0) (λ e. omega (arith, eqb-true (k % 2) 0 e)))

-- a block from the words m and n, which hold its upper and its lower row
pub corners_words : (p : List ℕ) (at below m n : ℕ)
    → (m % 256 ≡ get_or p at 0) × (m / 256 ≡ get_or p (at + 1) 0)
    → (n % 256 ≡ get_or p below 0) × (n / 256 ≡ get_or p (below + 1) 0)
    → m % 256 ∷ m / 256 ∷ n % 256 ∷ n / 256 ∷ [] ≡ corners_at p at below
corners_words p at below m n up low = λ i. up.0 i ∷ up.1 i ∷ low.0 i ∷ low.1 i ∷ []

-- the two columns of a block's upper row
pub two_smoothed : (p : List ℕ) (at below k : ℕ) → k % 2 ≡ 0
    → (filter_of (corners_at p (at + k) (below + k)) ≡ smooth_from p at below k) × (get_or p (at + k + 1) 0 ≡ smooth_from p at below (k + 1))
two_smoothed p at below k even =
    let next : at + k + 1 ≡ at + (k + 1) = omega arith in
    (sym (smooth_even p at below k even), ap (λ (j : ℕ). get_or p j 0) next ∙ sym (smooth_odd p at below (k + 1) (omega arith)))

-- what is read of an array that holds the first n of them
smooth_read : (p z : List ℕ) {q : List ℕ} (at below n k : ℕ) → n ≤ length z → q ≡ paint (λ j. ltb j n) (smooth_from p at below) z → k < n
    → get_or q (0 + k) 0 ≡ smooth_from p at below k
smooth_read p z {q} at below n k room now h =
    ap (λ (j : ℕ). get_or q j 0) (zero-add k)
    ∙ ap (λ (l : List ℕ). get_or l k 0) now
    ∙ get_d_paint _ _ z k (omega arith)
    ∙ cond-true (ltb k n) _ _ (lt-ltb k n h)

-- a part whose chroma went through two such arrays
pub smoothed_part : (y u v z xs : List ℕ) {p q is : List ℕ} (at below n m : ℕ) → length xs ≡ 4 * n → n ≤ m → m ≤ length z
    → p ≡ paint (λ j. ltb j m) (smooth_from u at below) z
    → q ≡ paint (λ j. ltb j m) (smooth_from v at below) z
    → is ≡ paint every (bytes (plain_from y at p q 0)) xs
    → is ≡ paint every (bytes (λ k. reverse_of (get_or y (at + k) 0) (smooth_from u at below k) (smooth_from v at below k))) xs
smoothed_part y u v z xs at below n m exact few room ps qs back =
    back
    ∙ part_ext _ _ xs n (omega arith)
    (λ k h. let in-m : k < m = omega arith in
    λ i. reverse_of (get_or y (at + k) 0) (smooth_read u z at below m k room ps in-m i) (smooth_read v z at below m k room qs in-m i))

-- ---- a part's pixels are the row's, from column `left` + k on

smooth_pixels : (stride row left k at : ℕ) → at ≡ row * stride + left + k → row % 2 ≡ 0 → (left + k) % 2 ≡ 0 → (y u v : List ℕ) (i : ℕ)
    → reverse_of (get_or y (at + i) 0) (smooth_from u at (at + stride) i) (smooth_from v at (at + stride) i) ≡ pixel_at stride y u v row (left + (k + i))
smooth_pixels stride row left k at here even_row even-col y u v i =
    ⊎_elim
    (λ even. let below : at + stride + i ≡ at + i + stride = omega arith in
    (λ t. reverse_of (get_or y (at + i) 0) (smooth_even u at (at + stride) i (omega arith) t) (smooth_even v at (at + stride) i (omega arith) t))
    ∙ (λ t. reverse_of (get_or y (at + i) 0) (filter_of (corners_at u (at + i) (below t))) (filter_of (corners_at v (at + i) (below t))))
    ∙ smooth_pixel stride row (left + (k + i)) (at + i) (omega arith) even_row (omega arith) y u v)
    (λ odd. (λ t. reverse_of (get_or y (at + i) 0) (smooth_odd u at (at + stride) i (omega arith) t) (smooth_odd v at (at + stride) i (omega arith) t))
    ∙ plain_pixel stride row (left + (k + i)) (at + i) (omega arith) (odd_col_off row (left + (k + i)) (omega arith)) y u v)
    (split (i % 2) 1)

-- the m pixels from there on were written as a part, where the k before them are done: as their samples stand, or filtered
module _ (stride row left : ℕ) (y u v xs : List ℕ) {was ys : List ℕ} (k m at : ℕ) (here : at ≡ row * stride + left + k) (fits : 4 * (k + m) ≤ length xs)
    (before : was ≡ done (row_from left (pixel_at stride y u v row)) k xs) where
  pub plain_more : ((i : ℕ) → i < m → (eqb (row % 2) 0 && eqb ((left + (k + i)) % 2) 0) ≡ false)
      → ys ≡ paint every (bytes (plain_from y at u v at)) (take (4 * (k + m) - 4 * k) (drop (4 * k) was))
      → take (4 * k) was ++ (ys ++ drop (4 * (k + m) - 4 * k) (drop (4 * k) was)) ≡ done (row_from left (pixel_at stride y u v row)) (k + m) xs
  plain_more off now = done_part _ _ xs k m fits before now (λ i h. plain_pixel stride row (left + (k + i)) (at + i) (omega arith) (off i h) y u v)

  pub smooth_more : row % 2 ≡ 0 → (left + k) % 2 ≡ 0
      → ys ≡ paint every (bytes (λ i. reverse_of (get_or y (at + i) 0) (smooth_from u at (at + stride) i) (smooth_from v at (at + stride) i)))
      (take (4 * (k + m) - 4 * k) (drop (4 * k) was))
      → take (4 * k) was ++ (ys ++ drop (4 * (k + m) - 4 * k) (drop (4 * k) was)) ≡ done (row_from left (pixel_at stride y u v row)) (k + m) xs
  smooth_more even_row even-col now = done_part _ _ xs k m fits before now (λ i h. smooth_pixels stride row left k at here even_row even-col y u v i)
