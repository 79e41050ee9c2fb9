-- The edge of a plane: one row's columns, one row below the picture, both together, and what either edge rule makes of a plane.
-- Assumes nothing.
use Prim.Native.Nat.{ℕ, ◌+◌, ◌*◌, ◌-◌, ◌<◌, ◌≤◌, min}
use native.Mathlib.Omega.{arith}
use mathlib.Core.Path.{◌≡◌, refl, sym, ap, ◌∙◌}
use mathlib.Core.Bool.{Bool, true, false, ◌&&◌}
use mathlib.Core.Logic.{◌⊎◌, ⊎_elim}
use mathlib.Core.List.{List}
use lib.Dec.{ltb}
use lib.ListN.{length, get_or}
use borrow.Author.Tests.{lt-ltb, le-leb, lt-leb, ltb-true, leb-true}
use Rattle.lent.specs.Paint.{paint, painted, whole, within, up_to}
use Rattle.lent.specs.Samples.{sample}
use Rattle.lent.proofs.Bools.{split, never_true, both_left, both_right, cond-false}
use Rattle.lent.proofs.Cells.{row_in}
use Rattle.lent.proofs.Painted.{length_painted, painted_at, painted_past, painted_is, painted_none}
use Rattle.lent.proofs.ByPart.{part_within}
use Rattle.lent.proofs.PartRows.{part_more}
use Rattle.from_rgba.specs.declared.edges.Edge.{Edge}
use Rattle.from_rgba.specs.declared.edges.Edge.TheVariants.{Fresh, Filled}
use Rattle.from_rgba.proofs.Passes.{Local}
use Rattle.from_rgba.specs.Edges.{filled, edged, past_column, past_row}

-- ---- a row of the picture: the columns right of it

pub column_row : (width height w row c : ℕ) → row < height → c < w → past_column width height row c ≡ within width w c
unfolding past_column within
column_row width height w row c hr hc =
    ⊎_elim
    (λ lt. rw (lt-ltb row height hr, lt-leb width c lt) refl)
    (λ ge. rw (lt-ltb row height hr, le-leb width c ge, lt-ltb c w hc) refl)
    (split c width)

pub column_facts : (width height r c : ℕ) → past_column width height r c ≡ true → (r < height) × (width ≤ c)
unfolding past_column
column_facts width height r c e = (ltb-true r height (both_left _ _ e), leb-true width c (both_right (ltb r height) _ e))

-- a row's last sample is none of them
pub last_untaken : (width height r : ℕ) → 0 < width → past_column width height r (width - 1) ≡ false
last_untaken width height r some = never_true (past_column width height r (width - 1)) (λ e. omega (arith, (column_facts width height r (width - 1) e).1))

-- ---- a place that is not taken stays, however many rows are done

pub untaken : (w h row r c : ℕ) (T : ℕ → ℕ → Bool) (s : ℕ → ℕ → ℕ) (xs : List ℕ) {was : List ℕ} → h * w ≤ length xs → r < h → c < w → T r c ≡ false
    → was ≡ painted w h (up_to T row) s xs → get_or was (r * w + c) 0 ≡ sample xs w r c
unfolding up_to sample
untaken w h row r c T s xs fits hr hc out before =
    ap (λ (l : List ℕ). get_or l (r * w + c) 0) before ∙ painted_at w h (up_to T row) s xs r c hr hc fits ∙ cond-false (T r c && ltb r row) _ _ (rw out refl)

-- ---- a row below the picture

pub row_facts : (height r c : ℕ) → past_row height r c ≡ true → height ≤ r
unfolding past_row
row_facts height r c e = leb-true height r e

row_taken : (height w row c : ℕ) → height ≤ row → c < w → past_row height row c ≡ within 0 w c
unfolding past_row within
row_taken height w row c below hc = rw (le-leb height row below, le-leb 0 c (omega arith), lt-ltb c w hc) refl

-- row `row` became the last row of the picture, where those before it are done
pub row_more : (w h height : ℕ) (xs : List ℕ) → h * w ≤ length xs → 0 < height → {was is : List ℕ} (row last to : ℕ) → height ≤ row → row < h → last ≡ (height - 1) * w → to ≡ row * w
    → was ≡ painted w h (up_to (past_row height) row) (λ r c. sample xs w (height - 1) c) xs
    → is ≡ paint (within to (to + w)) (λ k. get_or was (last + (k - to)) 0) was
    → is ≡ painted w h (up_to (past_row height) (row + 1)) (λ r c. sample xs w (height - 1) c) xs
row_more w h height xs fits some {was} row last to below hr last_is to_is before now =
    let long : length was ≡ length xs = ap length before ∙ length_painted w h _ _ xs in
    part_more w h (past_row height) (λ r c. sample xs w (height - 1) c) xs fits row 0 w to (to + w) (λ j. get_or was (last + j) 0) hr (omega arith) (omega arith) (omega (arith, to_is)) (omega (arith, to_is))
    (λ c hc. row_taken height w row c below hc)
    (λ j hj. ap (λ (k : ℕ). get_or was k 0) (omega (arith, last_is))
    ∙ untaken w h row (height - 1) (0 + j) (past_row height) _ xs fits (omega arith) hj (never_true (past_row height (height - 1) (0 + j)) (λ e. omega (arith, row_facts height (height - 1) (0 + j) e))) before)
    before refl
    (now ∙ sym (part_within was to (to + w) (λ j. get_or was (last + j) 0) (omega arith) (omega (arith, long, to_is, row_in w h row hr)) refl))

-- ---- the last column into the padding right of it, then the last row into the rows below, leaves the nearest sample everywhere

module _ (w h width height : ℕ) (xs : List ℕ) (fits : h * w ≤ length xs) (some-w : 0 < width) (in-w : width ≤ w) (some-h : 0 < height) (in-h : height ≤ h) {ys zs : List ℕ}
    (columns : ys ≡ painted w h (past_column width height) (λ r c. sample xs w r (width - 1)) xs)
    (rows : zs ≡ painted w h (past_row height) (λ r c. sample ys w (height - 1) c) ys) where
  -- a row of the picture, once its last column is copied
  row_of_picture : (r c : ℕ) → r < height → c < w → get_or ys (r * w + c) 0 ≡ sample xs w r (min c (width - 1))
  unfolding past_column sample
  row_of_picture r c hr hc =
      ap (λ (l : List ℕ). get_or l (r * w + c) 0) columns
      ∙ painted_at w h (past_column width height) (λ q k. sample xs w q (width - 1)) xs r c (omega arith) hc fits
      ∙ ⊎_elim
      (λ lt. let m : min c (width - 1) ≡ c = omega arith in rw (lt-ltb r height hr, lt-leb width c lt, m) refl)
      (λ ge. let m : min c (width - 1) ≡ width - 1 = omega arith in rw (lt-ltb r height hr, le-leb width c ge, m) refl)
      (split c width)

  ys_long : length ys ≡ length xs
  ys_long = ap length columns ∙ length_painted w h (past_column width height) _ xs

  nearest : (r c : ℕ) → r < h → c < w → get_or zs (r * w + c) 0 ≡ filled width height (sample xs w) r c
  unfolding past_row filled sample
  nearest r c hr hc =
      ap (λ (l : List ℕ). get_or l (r * w + c) 0) rows
      ∙ painted_at w h (past_row height) (λ q k. sample ys w (height - 1) k) ys r c hr hc (omega (arith, ys_long))
      ∙ ⊎_elim
      (λ lt. let m : min r (height - 1) ≡ r = omega arith in rw (lt-leb height r lt, m) (row_of_picture r c lt hc))
      (λ ge. let m : min r (height - 1) ≡ height - 1 = omega arith in let last : height - 1 < height = omega arith in rw (le-leb height r ge, m) (row_of_picture (height - 1) c last hc))
      (split r height)

  pub edge_filled : zs ≡ painted w h whole (filled width height (sample xs w)) xs
  edge_filled =
      painted_is w h whole (filled width height (sample xs w)) xs zs (ap length rows ∙ length_painted w h (past_row height) _ ys ∙ ys_long) nearest
      (λ k ge lt. ap (λ (l : List ℕ). get_or l k 0) rows
      ∙ painted_past w h (past_row height) _ ys k ge (omega (arith, ys_long))
      ∙ ap (λ (l : List ℕ). get_or l k 0) columns
      ∙ painted_past w h (past_column width height) _ xs k ge lt)

-- ---- by either rule

-- nothing to write: the plane has no byte
pub edge_none : (w h : ℕ) (s : ℕ → ℕ → ℕ) (xs : List ℕ) → (w ≡ 0) ⊎ (h ≡ 0) → xs ≡ painted w h whole s xs
edge_none w h s xs none = painted_none w h whole s xs (λ r c hr hc. absurd (⊎_elim (λ z. omega arith) (λ z. omega arith) none))

-- a plane is what it was where each place gets its own sample
pub plane_kept : (w h : ℕ) (xs : List ℕ) → h * w ≤ length xs → xs ≡ painted w h whole (sample xs w) xs
unfolding sample
plane_kept w h xs fits = painted_is w h whole _ xs xs refl (λ r c hr hc. refl) (λ k ge lt. refl)

-- the rule reads no sample from outside the plane
pub edged_local : (e : Edge) (w h width height : ℕ) → width ≤ w → height ≤ h → Local w h (edged e width height)
unfolding filled
edged_local Fresh w h width height in-w in-h p q same r c hr hc = same r c hr hc
edged_local Filled w h width height in-w in-h p q same r c hr hc = same (min r (height - 1)) (min c (width - 1)) (omega arith) (omega arith)

-- in the picture every sample is its own nearest one
pub edged-inside : (e : Edge) (width height : ℕ) (p : ℕ → ℕ → ℕ) (r c : ℕ) → r < height → c < width → edged e width height p r c ≡ p r c
unfolding filled
edged-inside Fresh width height p r c hr hc = refl
edged-inside Filled width height p r c hr hc =
    let row : min r (height - 1) ≡ r = omega arith in
    let column : min c (width - 1) ≡ c = omega arith in
    λ i. p (row i) (column i)
