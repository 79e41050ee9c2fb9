-- The rows of a view by parts: the pixels of a part by the chroma (`shared_part`), the rows by their columns (`view_more`), or each row whole
-- (`paired_row`).
-- Assumes nothing.
use Prim.Native.Nat.{ℕ, ◌+◌, ◌*◌, ◌/◌, ◌%◌, ◌-◌, ◌<◌, ◌≤◌}
use native.Mathlib.Nat.{add-mul}
use native.Mathlib.Omega.{arith}
use mathlib.Core.Path.{◌≡◌, refl, ap, ◌∙◌}
use mathlib.Core.List.{List}
use lib.Dec.{ltb}
use lib.IntN.{ℤ}
use lib.ListN.{length, get_or}
use borrow.Author.Tests.{lt-ltb, le-ltb}
use Rattle.colour.specs.Colour.{reverse_of}
use Rattle.lent.specs.Pixels.{bytes}
use Rattle.lent.specs.Paint.{paint, painted, every, whole, within}
use Rattle.lent.specs.Samples.{sample}
use Rattle.lent.proofs.ByPart.{below-or-within}
use Rattle.lent.proofs.Taken.{within_facts}
use Rattle.lent.proofs.Painted.{painted_none, painted_ext, painted_more}
use Rattle.to_rgba_rows.specs.Rules.{view_pixel_at, shades_from, half_of, paired_from}
use Rattle.to_rgba_rows.proofs.Shading.{SharesFrom, shade_reversed, part_ext}

-- ---- a part of each row

-- a row of pixels as it is seen from pixel k on, by its bytes
pub bytes_from : (f : ℕ → List ℕ) (k j : ℕ) → bytes f j ≡ bytes (λ i. f (i - k)) (4 * k + j)
unfolding bytes
bytes_from f k j =
    let q : j / 4 ≡ (4 * k + j) / 4 - k = omega arith in
    let r : j % 4 ≡ (4 * k + j) % 4 = omega arith in
    λ t. get_or (f (q t)) (r t) 0

-- ---- its pixels by the chroma

-- one pixel of a row is another's
bytes_same : (f g : ℕ → List ℕ) (j : ℕ) → f (j / 4) ≡ g (j / 4) → bytes f j ≡ bytes g j
unfolding bytes
bytes_same f g j e = ap (λ (p : List ℕ). get_or p (j % 4) 0) e

-- pixels k to below k + m of each row, whose luma starts at `start` of the row, and whose chroma at c
pub shared_part : (w h k m : ℕ) (start : ℕ → ℕ) (y u v : List ℕ) (c : ℕ) (xs : List ℕ) {r g b : List ℤ} {is : List ℕ}
    → SharesFrom u v c ((m + 1) / 2) r g b
    → is ≡ painted w h (λ l. within (4 * k) (4 * (k + m))) (λ l. bytes (λ i. shades_from half_of y (start l + k) r g b (i - k))) xs
    → is ≡ painted w h (λ l. within (4 * k) (4 * (k + m)))
    (λ l. bytes (λ i. reverse_of (get_or y (start l + i) 0) (get_or u (c + (i - k) / 2) 0) (get_or v (c + (i - k) / 2) 0))) xs
shared_part w h k m start y u v c xs made back =
    back
    ∙ painted_ext w h _ _ _ _ xs (λ l j hl hj. refl)
    (λ l j hl hj t.
    let f = within_facts (4 * k) (4 * (k + m)) j t in
    let p : ℕ = c + (j / 4 - k) / 2 in
    let here : start l + k + (j / 4 - k) ≡ start l + j / 4 = omega (arith, f.0) in
    bytes_same _ _ j
    (shade_reversed u v c made half_of y (start l + k) (j / 4 - k) (omega (arith, f.0, f.1))
    ∙ ap (λ (q : ℕ). reverse_of (get_or y q 0) (get_or u p 0) (get_or v p 0)) here))

-- ---- the rows by their columns

module _ (w h : ℕ) (s : ℕ → ℕ → ℕ) (xs : List ℕ) where
  pub columns_none : xs ≡ painted w h (λ r c. ltb c 0) s xs
  columns_none = painted_none w h _ s xs (λ r c hr hc. le-ltb c 0 (omega arith))

  pub columns_all : (a : ℕ) → w ≤ a → painted w h (λ r c. ltb c a) s xs ≡ painted w h whole s xs
  columns_all a end = painted_ext w h _ whole s s xs (λ r c hr hc. lt-ltb c a (omega arith)) (λ r c hr hc e. refl)

  -- the columns below a are done, and then those from a to below e
  pub columns_more : {was is : List ℕ} (a e : ℕ) (s' : ℕ → ℕ → ℕ) → a ≤ e → was ≡ painted w h (λ r c. ltb c a) s xs
      → is ≡ painted w h (λ r. within a e) s' was
      → ((r c : ℕ) → r < h → a ≤ c → c < e → s' r c ≡ s r c)
      → is ≡ painted w h (λ r c. ltb c e) s xs
  columns_more {was} a e s' ordered before now from =
      now
      ∙ painted_ext w h _ _ s' s was (λ r c hr hc. refl) (λ r c hr hc t. let f = within_facts a e c t in from r c hr f.0 f.1)
      ∙ ap (painted w h (λ r. within a e) s) before
      ∙ painted_more w h _ _ s xs
      ∙ painted_ext w h _ _ s s xs (λ r c hr hc. below-or-within a e c ordered) (λ r c hr hc t. refl)

-- ---- a view's rows

-- the even row `row` and the one below it share their chroma
half_row : (row l chroma : ℕ) → row % 2 ≡ 0 → l < 2 → row / 2 * chroma ≡ (row + l) / 2 * chroma
half_row row l chroma even low = let half : row / 2 ≡ (row + l) / 2 = omega arith in ap (λ (q : ℕ). q * chroma) half

-- a pixel by the places of its luma and its chroma, by any colour matrix
view_pixel : (m : ℕ → ℕ → ℕ → List ℕ) (luma chroma r i p q : ℕ) (y u v : List ℕ) → p ≡ r * luma + i → q ≡ r / 2 * chroma + i / 2
    → m (get_or y p 0) (get_or u q 0) (get_or v q 0) ≡ view_pixel_at m luma chroma y u v r i
unfolding view_pixel_at sample
view_pixel m luma chroma r i p q y u v here there = λ t. m (get_or y (here t) 0) (get_or u (there t) 0) (get_or v (there t) 0)

-- a row that was written whole, one sample of its chroma for two pixels
pub paired_row : (m : ℕ → ℕ → ℕ → List ℕ) (luma chroma row l : ℕ) (y u v xs : List ℕ) {is : List ℕ} → row % 2 ≡ 0 → l < 2
    → is ≡ paint every (bytes (paired_from m y ((row + l) * luma) u v (row / 2 * chroma))) xs
    → is ≡ paint every (bytes (view_pixel_at m luma chroma y u v (row + l))) xs
paired_row m luma chroma row l y u v xs even low back =
    back
    ∙ part_ext _ _ xs (length xs) (omega arith)
    (λ k h. view_pixel m luma chroma (row + l) k _ _ y u v refl (omega (arith, half_row row l chroma even low)))

-- of the rows that share their chroma the columns below k are done, and then those from k to below k + m
pub view_more : (luma chroma row n lines k m : ℕ) (y u v xs : List ℕ) {was is : List ℕ} → row % 2 ≡ 0 → lines ≤ 2 → k % 2 ≡ 0
    → let c = row / 2 * chroma + k / 2 in
    let pixel : ℕ → ℕ → List ℕ = λ l. view_pixel_at reverse_of luma chroma y u v (row + l) in
    was ≡ painted (4 * n) lines (λ l j. ltb j (4 * k)) (λ l. bytes (pixel l)) xs
    → is ≡ painted (4 * n) lines (λ l. within (4 * k) (4 * (k + m)))
    (λ l. bytes (λ i. reverse_of (get_or y (row * luma + l * luma + i) 0) (get_or u (c + (i - k) / 2) 0) (get_or v (c + (i - k) / 2) 0))) was
    → is ≡ painted (4 * n) lines (λ l j. ltb j (4 * (k + m))) (λ l. bytes (pixel l)) xs
view_more luma chroma row n lines k m y u v xs even few even-k before now =
    columns_more (4 * n) lines _ xs (4 * k) (4 * (k + m)) _ (omega arith) before now
    (λ l j hl ge lt. bytes_same _ _ j
    (view_pixel reverse_of luma chroma (row + l) (j / 4) _ _ y u v (omega (arith, add-mul row l luma)) (omega (arith, half_row row l chroma even (omega arith)))))
