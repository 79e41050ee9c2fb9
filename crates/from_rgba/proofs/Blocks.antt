-- The average of each block: of a pair of rows one part of the columns after the other, of a plane one pair after the other.
-- Assumes nothing.
use Prim.Native.Nat.{ℕ, ◌+◌, ◌*◌, ◌/◌, ◌%◌, ◌-◌, ◌<◌, ◌≤◌}
use native.Mathlib.Nat.{zero-mul, zero-add, add-mul, one-mul, mul-le-mul_right}
use native.Mathlib.Omega.{arith}
use mathlib.Core.Path.{◌≡◌, refl, sym, ap, ◌∙◌}
use mathlib.Core.Logic.{◌⊎◌, inl, inr, ⊎_elim}
use mathlib.Core.List.{List, [], ◌∷◌, ◌++◌}
use lib.Dec.{eqb, ltb}
use lib.ListN.{length, get_or, take, drop}
use lib.Seq.{get_or-take, get_or-drop}
use borrow.Author.Tests.{lt-ltb, eq-eqb, eqb-true}
use Rattle.lent.specs.Paint.{paint, painted, whole, within, up_to}
use Rattle.lent.specs.Samples.{sample}
use Rattle.lent.proofs.Bools.{split, never_true, both, both_left, both_right, cond-true, cond-false}
use Rattle.lent.proofs.Cells.{cell_in}
use Rattle.lent.proofs.Paint.{get_d_paint, paint_ext}
use Rattle.lent.proofs.SoFar.{SoFar}
use Rattle.lent.proofs.Taken.{within_facts}
use Rattle.lent.proofs.Painted.{painted_is}
use Rattle.colour.specs.Colour.{average_of}
use Rattle.from_rgba.specs.Averaged.{averaged}
use Rattle.lent.proofs.ByPart.{so_far_past, so_far_within}
use Rattle.lent.proofs.ManyRows.{rows_kept, many_more}
use Rattle.from_rgba.proofs.Passes.{Local}

-- ---- what `averaged` says at a place

module _ (p : ℕ → ℕ → ℕ) (r c : ℕ) where
  pub averaged_at : r % 2 ≡ 0 → c % 2 ≡ 0 → averaged p r c ≡ average_of (p r c ∷ p r (c + 1) ∷ p (r + 1) c ∷ p (r + 1) (c + 1) ∷ [])
  unfolding averaged
  averaged_at hr hc = cond-true _ _ _ (both _ _ (eq-eqb (r % 2) 0 hr) (eq-eqb (c % 2) 0 hc))

  pub averaged_else : ((r % 2 ≡ 0) × (c % 2 ≡ 0) → ⊥) → averaged p r c ≡ p r c
  unfolding averaged
  averaged_else never =
      cond-false _ _ _ (never_true _ (λ e. never (eqb-true (r % 2) 0 (both_left (eqb (r % 2) 0) _ e), eqb-true (c % 2) 0 (both_right (eqb (r % 2) 0) _ e))))

-- a place is the first of a block or it is not
even_even : (r c : ℕ) → ((r % 2 ≡ 0) × (c % 2 ≡ 0)) ⊎ ((r % 2 ≡ 0) × (c % 2 ≡ 0) → ⊥)
even_even r c = ⊎_elim (λ lt. ⊎_elim (λ lt'. inl (omega arith, omega arith)) (λ ge. inr (λ e. omega (arith, e.1))) (split (c % 2) 1)) (λ ge. inr (λ e. omega (arith, e.0))) (split (r % 2) 1)

-- planes that agree in the block have the same average, also where one's rows are counted from an even row of the other
pub averaged_same : (p q : ℕ → ℕ → ℕ) (w h row r c : ℕ) → w % 2 ≡ 0 → h % 2 ≡ 0 → row % 2 ≡ 0 → r < h → c < w
    → ((a b : ℕ) → a < h → b < w → c ≤ b → p a b ≡ q (row + a) b) → averaged p r c ≡ averaged q (row + r) c
averaged_same p q w h row r c ew eh er hr hc same =
    ⊎_elim
    (λ e. let below : row + (r + 1) ≡ row + r + 1 = omega arith in
    averaged_at p r c e.0 e.1
    ∙ (λ i. average_of (
    same r c hr hc (omega arith) i
    ∷ same r (c + 1) hr (omega (arith, e.1)) (omega arith) i
    ∷ (same (r + 1) c (omega (arith, e.0)) hc (omega arith) ∙ ap (λ (m : ℕ). q m c) below) i
    ∷ (same (r + 1) (c + 1) (omega (arith, e.0)) (omega (arith, e.1)) (omega arith) ∙ ap (λ (m : ℕ). q m (c + 1)) below) i
    ∷ []))
    ∙ sym (averaged_at q (row + r) c (omega (arith, e.0)) e.1))
    (λ never. averaged_else p r c never ∙ same r c hr hc (omega arith) ∙ sym (averaged_else q (row + r) c (λ e. never (omega (arith, e.0), e.1))))
    (even_even r c)

-- ---- a pair of rows: two columns as a word each, a part of the columns, all of them

module _ (xs : List ℕ) (w : ℕ) where
  upper : (c : ℕ) → sample xs w 0 c ≡ get_or xs c 0
  unfolding sample
  upper c = ap (λ (m : ℕ). get_or xs (m + c) 0) (zero-mul w) ∙ ap (λ (m : ℕ). get_or xs m 0) (zero-add c)

  lower : (c : ℕ) → sample xs w (0 + 1) c ≡ get_or xs (w + c) 0
  unfolding sample
  lower c = ap (λ (m : ℕ). get_or xs (m + c) 0) (one-mul w)

-- the two columns from `at` + k on, of which the words m and n hold the upper and the lower row's bytes
pub two_averaged : (xs : List ℕ) (at below k m n r : ℕ) → at % 2 ≡ 0 → at ≤ below → k % 2 ≡ 0
    → (m % 256 ≡ get_or xs (at + k) 0) × (m / 256 ≡ get_or xs (at + k + 1) 0)
    → (n % 256 ≡ get_or xs (below + k) 0) × (n / 256 ≡ get_or xs (below + k + 1) 0)
    → (r % 256 ≡ average_of (m % 256 ∷ m / 256 ∷ n % 256 ∷ n / 256 ∷ [])) × (r / 256 ≡ m / 256)
    → (r % 256 ≡ averaged (sample xs (below - at)) 0 (at + k)) × (r / 256 ≡ averaged (sample xs (below - at)) 0 (at + (k + 1)))
two_averaged xs at below k m n r even-at ordered even-k up low is =
    let left : below - at + (at + k) ≡ below + k = omega arith in
    let right : below - at + (at + k + 1) ≡ below + k + 1 = omega arith in
    let next : at + k + 1 ≡ at + (k + 1) = omega arith in (
      is.0
          ∙ (λ i. average_of (
          (up.0 ∙ sym (upper xs (below - at) (at + k))) i
          ∷ (up.1 ∙ sym (upper xs (below - at) (at + k + 1))) i
          ∷ (low.0 ∙ sym (lower xs (below - at) (at + k) ∙ ap (λ (j : ℕ). get_or xs j 0) left)) i
          ∷ (low.1 ∙ sym (lower xs (below - at) (at + k + 1) ∙ ap (λ (j : ℕ). get_or xs j 0) right)) i
          ∷ []))
          ∙ sym (averaged_at (sample xs (below - at)) 0 (at + k) refl (omega arith)),
      is.1
          ∙ up.1
          ∙ ap (λ (j : ℕ). get_or xs j 0) next
          ∙ sym (averaged_else (sample xs (below - at)) 0 (at + (k + 1)) (λ e. omega (arith, e.1)) ∙ upper xs (below - at) (at + (k + 1))),
    )

-- n columns that went through an array
pub averages_back : (s : ℕ → ℕ) (xs z : List ℕ) {ys is : List ℕ} (at n : ℕ) → n % 2 ≡ 0 → n ≤ length z → ys ≡ paint (λ j. ltb j (2 * (n / 2))) (λ j. s (at + j)) z
    → is ≡ paint (within at (at + n)) (λ k. get_or ys (k - at) 0) xs
    → is ≡ paint (within at (at + n)) s xs
averages_back s xs z at n even room now back =
    back
    ∙ paint_ext _ _ _ s xs (λ k h. refl)
    (λ k h t. let f = within_facts at (at + n) k t in
    let k-is : at + (k - at) ≡ k = omega (arith, f.0) in
    ap (λ (l : List ℕ). get_or l (k - at) 0) now
    ∙ get_d_paint _ _ z (k - at) (omega (arith, f.0, f.1))
    ∙ cond-true (ltb (k - at) (2 * (n / 2))) _ _ (lt-ltb (k - at) (2 * (n / 2)) (omega (arith, f.0, f.1)))
    ∙ ap s k-is)

module _ (w : ℕ) (xs : List ℕ) (fits : 2 * w ≤ length xs) (even-w : w % 2 ≡ 0) where
  -- what a part reads is as before the call: the upper row's columns from its own on, and the lower row
  pub columns_more : {was is : List ℕ} (a n d : ℕ) → a + n ≤ w → d ≡ w → SoFar (averaged (sample xs w) 0) xs was a
      → is ≡ paint (within a (a + n)) (averaged (sample was d) 0) was
      → SoFar (averaged (sample xs w) 0) xs is (a + n)
  unfolding sample
  columns_more {was} a n d room d-is before back =
      so_far_within (averaged (sample xs w) 0) xs a (a + n) (averaged (sample was d) 0) (omega arith) before back
      (λ k ge lt. ap (λ (m : ℕ). averaged (sample was m) 0 k) d-is
      ∙ averaged_same (sample was w) (sample xs w) w 2 0 0 k even-w refl refl (omega arith) (omega arith)
      (λ r c hr hc ge'. so_far_past _ xs a (r * w + c) before (omega arith) (omega (arith, cell_in w 2 r c hr hc)) ∙ ap (λ (q : ℕ). get_or xs (q * w + c) 0) (sym (zero-add r))))

  pub columns_all : {ys : List ℕ} (k : ℕ) → SoFar (averaged (sample xs w) 0) xs ys k → k ≡ w → ys ≡ painted w 2 whole (averaged (sample xs w)) xs
  unfolding sample
  columns_all {ys} k done end =
      painted_is w 2 whole _ xs ys done.0
      (λ r c hr hc. ⊎_elim
      (λ lt. let r-is : r ≡ 0 = omega arith in
      let at : r * w + c ≡ c = ap (λ (q : ℕ). q * w + c) r-is ∙ ap (λ (m : ℕ). m + c) (zero-mul w) ∙ zero-add c in
      ap (λ (m : ℕ). get_or ys m 0) at
      ∙ ap (λ (l : List ℕ). get_or l c 0) done.1
      ∙ get_d_paint _ _ xs c (omega arith)
      ∙ cond-true (ltb c k) _ _ (lt-ltb c k (omega arith))
      ∙ ap (λ (q : ℕ). averaged (sample xs w) q c) (sym r-is))
      (λ ge. let r-is : r ≡ 1 = omega arith in
      let start : r * w ≡ w = ap (λ (q : ℕ). q * w) r-is ∙ one-mul w in
      so_far_past _ xs k (r * w + c) done (omega arith) (omega arith) ∙ sym (averaged_else (sample xs w) r c (λ e. omega (arith, e.0))))
      (split r 1))
      (λ m ge lt. so_far_past _ xs k m done (omega arith) lt)

-- ---- a plane, one pair of rows after the other

pub pair_in_lem : (w h row : ℕ) → row + 2 ≤ h → row * w + 2 * w ≤ h * w
pair_in_lem w h row room = omega (arith, add-mul row 2 w, mul-le-mul_right w room)

module _ (w h : ℕ) (xs : List ℕ) (fits : h * w ≤ length xs) (even-w : w % 2 ≡ 0) where
  -- two rows were lent, averaged and came back
  pub pairs_more : {was is ys : List ℕ} (row a e : ℕ) → row % 2 ≡ 0 → row + 2 ≤ h → a ≡ row * w → e ≡ row * w + 2 * w
      → was ≡ painted w h (up_to whole row) (averaged (sample xs w)) xs
      → ys ≡ painted w 2 whole (averaged (sample (take (e - a) (drop a was)) w)) (take (e - a) (drop a was))
      → is ≡ take a was ++ (ys ++ drop (e - a) (drop a was))
      → is ≡ painted w h (up_to whole (row + 2)) (averaged (sample xs w)) xs
  unfolding sample
  pairs_more {was} row a e even_row room a-is e-is before now back =
      many_more w h (averaged (sample xs w)) xs fits row 2 a e _ room a-is e-is before now
      (λ r c hr hc. averaged_same (sample part w) (sample xs w) w 2 row r c even-w refl even_row hr hc (λ a b ha hb ge. lent a b ha hb))
      back
    where
      part : List ℕ
      part = take (e - a) (drop a was)

      lent : (r c : ℕ) → r < 2 → c < w → sample part w r c ≡ sample xs w (row + r) c
      lent r c hr hc =
          let start : (row + r) * w ≡ row * w + r * w = add-mul row r w in
          get_or-take (e - a) (drop a was) (r * w + c) 0 (omega (arith, a-is, e-is, cell_in w 2 r c hr hc))
          ∙ get_or-drop a was (r * w + c) 0
          ∙ ap (λ (k : ℕ). get_or was k 0) (omega (arith, a-is, start))
          ∙ rows_kept w h (averaged (sample xs w)) xs fits row (row + r) c before (omega arith) (omega arith) hc

-- ---- the average reads no sample from outside the plane

pub averaged_local : (w h : ℕ) → w % 2 ≡ 0 → h % 2 ≡ 0 → Local w h averaged
averaged_local w h ew eh p q same r c hr hc =
    averaged_same p q w h 0 r c ew eh refl hr hc (λ a b ha hb ge. same a b ha hb ∙ ap (λ (m : ℕ). q m b) (sym (zero-add a))) ∙ ap (λ (m : ℕ). averaged q m c) (zero-add r)
