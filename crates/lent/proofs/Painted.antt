-- The laws of `painted`: what stands where, nothing taken, two calls in a row, one place more.
-- Assumes nothing.
use Prim.Native.Nat.{ℕ, ◌+◌, ◌*◌, ◌/◌, ◌%◌, ◌<◌, ◌≤◌}
use native.Mathlib.Nat.{div-add-mod'}
use native.Mathlib.Omega.{arith}
use mathlib.Core.Path.{◌≡◌, refl, sym, ap, ◌∙◌, subst}
use mathlib.Core.Bool.{Bool, true, false, cond, ◌&&◌, ◌||◌, and-or_distrib_left}
use mathlib.Core.Logic.{⊎_elim}
use mathlib.Core.List.{List}
use lib.Dec.{ltb}
use lib.ListN.{length, get_or}
use borrow.Author.Tests.{lt-ltb, le-ltb, ltb-true}
use Rattle.lent.specs.Paint.{painted}
use Rattle.lent.proofs.Bools.{split, both_left, both_right, cond-false, cond_same, same_and, and-cond}
use Rattle.lent.proofs.Paint.{length-paint, get_d_paint, paint_is, paint_ext, paint-paint}
use Rattle.lent.proofs.Cells.{cell_row, cell_col, cell_in, row_of, col_of}

module _ (w h : ℕ) (t : ℕ → ℕ → Bool) (s : ℕ → ℕ → ℕ) (xs : List ℕ) where
  pub length_painted : length (painted w h t s xs) ≡ length xs
  unfolding painted
  length_painted = length-paint _ _ xs

  pub painted_at : (r c : ℕ) → r < h → c < w → h * w ≤ length xs → get_or (painted w h t s xs) (r * w + c) 0 ≡ cond (t r c) (s r c) (get_or xs (r * w + c) 0)
  unfolding painted
  painted_at r c hr hc fits =
      let lt : r * w + c < h * w = cell_in w h r c hr hc in
      get_d_paint _ _ xs (r * w + c) (omega arith)
      ∙ (λ i. cond (lt-ltb (r * w + c) (h * w) lt i && t (cell_row w r c hc i) (cell_col w r c hc i)) (s (cell_row w r c hc i) (cell_col w r c hc i)) (get_or xs (r * w + c) 0))

  pub painted_past : (k : ℕ) → h * w ≤ k → k < length xs → get_or (painted w h t s xs) k 0 ≡ get_or xs k 0
  unfolding painted
  painted_past k ge hk = get_d_paint _ _ xs k hk ∙ cond-false _ _ _ (ap (λ (b : Bool). b && t (k / w) (k % w)) (le-ltb k (h * w) ge))

  pub painted_is : (ys : List ℕ) → length ys ≡ length xs → ((r c : ℕ) → r < h → c < w → get_or ys (r * w + c) 0 ≡ cond (t r c) (s r c) (get_or xs (r * w + c) 0)) → ((k : ℕ) → h * w ≤ k → k < length xs → get_or ys k 0 ≡ get_or xs k 0) → ys ≡ painted w h t s xs
  unfolding painted
  painted_is ys e f g =
      paint_is _ _ xs ys e
      (λ k hk. ⊎_elim
      (λ lt. subst (λ (m : ℕ). get_or ys m 0 ≡ cond (t (k / w) (k % w)) (s (k / w) (k % w)) (get_or xs m 0)) (div-add-mod' k w) (f (k / w) (k % w) (row_of w h k lt) (col_of w h k lt))
      ∙ sym (ap (λ (b : Bool). cond (b && t (k / w) (k % w)) (s (k / w) (k % w)) (get_or xs k 0)) (lt-ltb k (h * w) lt)))
      (λ ge. g k ge hk ∙ sym (cond-false _ _ _ (ap (λ (b : Bool). b && t (k / w) (k % w)) (le-ltb k (h * w) ge))))
      (split k (h * w)))

  pub painted_none : ((r c : ℕ) → r < h → c < w → t r c ≡ false) → xs ≡ painted w h t s xs
  painted_none f = painted_is xs refl (λ r c hr hc. sym (cond-false (t r c) (s r c) _ (f r c hr hc))) (λ k ge hk. refl)

-- by what is taken alone
pub painted_ext : (w h : ℕ) (t t' : ℕ → ℕ → Bool) (s s' : ℕ → ℕ → ℕ) (xs : List ℕ) → ((r c : ℕ) → r < h → c < w → t r c ≡ t' r c) → ((r c : ℕ) → r < h → c < w → t r c ≡ true → s r c ≡ s' r c) → painted w h t s xs ≡ painted w h t' s' xs
unfolding painted
painted_ext w h t t' s s' xs f g =
    paint_ext _ _ _ _ xs
    (λ k hk. same_and (ltb k (h * w)) _ _ (λ e. let lt = ltb-true k (h * w) e in f (k / w) (k % w) (row_of w h k lt) (col_of w h k lt)))
    (λ k hk e. let lt = ltb-true k (h * w) (both_left (ltb k (h * w)) _ e) in g (k / w) (k % w) (row_of w h k lt) (col_of w h k lt) (both_right (ltb k (h * w)) _ e))

-- two calls in a row, whatever each takes and from where: the second wins where it takes
pub painted-painted : (w h : ℕ) (t₁ t₂ : ℕ → ℕ → Bool) (s₁ s₂ : ℕ → ℕ → ℕ) (xs : List ℕ) → painted w h t₂ s₂ (painted w h t₁ s₁ xs) ≡ painted w h (λ r c. t₁ r c || t₂ r c) (λ r c. cond (t₂ r c) (s₂ r c) (s₁ r c)) xs
unfolding painted
painted-painted w h t₁ t₂ s₁ s₂ xs =
    paint-paint _ _ _ _ xs
    ∙ paint_ext _ _ _ _ xs (λ k hk. sym (and-or_distrib_left (ltb k (h * w)) _ _)) (λ k hk e. and-cond (ltb k (h * w)) (t₁ (k / w) (k % w)) _ _ _ e)

-- two calls from one source
pub painted_more : (w h : ℕ) (t₁ t₂ : ℕ → ℕ → Bool) (s : ℕ → ℕ → ℕ) (xs : List ℕ) → painted w h t₂ s (painted w h t₁ s xs) ≡ painted w h (λ r c. t₁ r c || t₂ r c) s xs
painted_more w h t₁ t₂ s xs = painted-painted w h t₁ t₂ s s xs ∙ painted_ext w h _ _ _ _ xs (λ r c hr hc. refl) (λ r c hr hc e. cond_same (t₂ r c) (s r c))
