-- Some columns of one row: none, the same ones from another source, two kinds that are all, two stretches, and both of these. Each is over
-- any test and any source. Assumes nothing.
use Prim.Native.Nat.{ℕ, ◌<◌, ◌≤◌}
use native.Mathlib.Omega.{arith}
use mathlib.Core.Path.{◌≡◌, refl, sym, ap, subst, ◌∙◌}
use mathlib.Core.Bool.{Bool, true, ◌&&◌, ◌||◌}
use mathlib.Core.Logic.{◌⊎◌, inl, inr, ⊎_elim}
use mathlib.Core.List.{List}
use Rattle.lent.specs.Paint.{painted, row_part}
use Rattle.lent.proofs.Bools.{split, same_test, never_true, both, both_left, either, or_left, or_right}
use Rattle.lent.proofs.Painted.{painted_none, painted_more, painted_ext}
use Rattle.lent.proofs.Taken.{row_part_facts, row_part_holds}

-- two calls from one source, which together take what t takes
pub painted_join : (w h : ℕ) (t₁ t₂ t : ℕ → ℕ → Bool) (s : ℕ → ℕ → ℕ) (xs : List ℕ) → ((r c : ℕ) → t₁ r c ≡ true → t r c ≡ true) → ((r c : ℕ) → t₂ r c ≡ true → t r c ≡ true)
    → ((r c : ℕ) → t r c ≡ true → (t₁ r c ≡ true) ⊎ (t₂ r c ≡ true))
    → painted w h t₂ s (painted w h t₁ s xs) ≡ painted w h t s xs
painted_join w h t₁ t₂ t s xs f g all =
    painted_more w h t₁ t₂ s xs
    ∙ painted_ext w h _ _ s s xs
    (λ r c hr hc. same_test (t₁ r c || t₂ r c) (t r c)
    (λ e. ⊎_elim (f r c) (g r c) (either (t₁ r c) (t₂ r c) e))
    (λ e. ⊎_elim (or_left (t₁ r c) (t₂ r c)) (or_right (t₁ r c) (t₂ r c)) (all r c e)))
    (λ r c hr hc e. refl)

module _ (w h row left : ℕ) (xs : List ℕ) where
  pub columns_none : (right : ℕ) (q : ℕ → Bool) (s : ℕ → ℕ → ℕ) → ((c : ℕ) → left ≤ c → c < right → q c ≡ true → ⊥)
      → xs ≡ painted w h (row_part q row left right) s xs
  columns_none right q s never =
      painted_none w h _ s xs (λ r c hr hc. never_true _ (λ e. let f = row_part_facts q row left right r c e in never c f.1 f.2 f.3))

  pub columns_empty : (q : ℕ → Bool) (s : ℕ → ℕ → ℕ) → xs ≡ painted w h (row_part q row left left) s xs
  columns_empty q s = columns_none left q s (λ c low high e. omega arith)

  -- what was written below `stop` is what is to be written below `right`
  pub columns_same : (stop right : ℕ) (q q' : ℕ → Bool) (s s' : ℕ → ℕ → ℕ)
      → ((c : ℕ) → left ≤ c → c < stop → q c ≡ true → (c < right) × (q' c ≡ true))
      → ((c : ℕ) → left ≤ c → c < right → q' c ≡ true → (c < stop) × (q c ≡ true))
      → ((c : ℕ) → q c ≡ true → s row c ≡ s' row c)
      → painted w h (row_part q row left stop) s xs ≡ painted w h (row_part q' row left right) s' xs
  columns_same stop right q q' s s' f g from =
      painted_ext w h _ _ s s' xs
      (λ r c hr hc. same_test _ _
      (λ e. let t = row_part_facts q row left stop r c e in
      let y = f c t.1 t.2 t.3 in
      row_part_holds q' row left right r c t.0 t.1 y.0 y.1)
      (λ e. let t = row_part_facts q' row left right r c e in
      let y = g c t.1 t.2 t.3 in
      row_part_holds q row left stop r c t.0 t.1 y.0 y.1))
      (λ r c hr hc e. let t = row_part_facts q row left stop r c e in subst (λ (m : ℕ). s m c ≡ s' m c) (sym t.0) (from c t.3))

  -- two kinds, one of which each column has
  pub columns_all : (right : ℕ) (q k k' : ℕ → Bool) (s : ℕ → ℕ → ℕ) → ((c : ℕ) → (k c ≡ true) ⊎ (k' c ≡ true))
      → painted w h (row_part (λ c. q c && k' c) row left right) s (painted w h (row_part (λ c. q c && k c) row left right) s xs) ≡ painted w h (row_part q row left right) s xs
  columns_all right q k k' s all =
      painted_join w h _ _ _ s xs (fewer k) (fewer k') (λ r c e. ⊎_elim (λ is. inl (more k r c e is)) (λ is. inr (more k' r c e is)) (all c))
    where
      fewer : (m : ℕ → Bool) (r c : ℕ) → row_part (λ c. q c && m c) row left right r c ≡ true → row_part q row left right r c ≡ true
      fewer m r c e = let t = row_part_facts (λ c. q c && m c) row left right r c e in row_part_holds q row left right r c t.0 t.1 t.2 (both_left (q c) (m c) t.3)

      more : (m : ℕ → Bool) (r c : ℕ) → row_part q row left right r c ≡ true → m c ≡ true → row_part (λ c. q c && m c) row left right r c ≡ true
      more m r c e is = let t = row_part_facts q row left right r c e in row_part_holds (λ c. q c && m c) row left right r c t.0 t.1 t.2 (both (q c) (m c) t.3 is)

  -- two stretches
  pub columns_more : (mid right : ℕ) (q : ℕ → Bool) (s : ℕ → ℕ → ℕ) → left ≤ mid → mid ≤ right
      → painted w h (row_part q row mid right) s (painted w h (row_part q row left mid) s xs) ≡ painted w h (row_part q row left right) s xs
  columns_more mid right q s low high =
      painted_join w h _ _ _ s xs
      (λ r c e. let f = row_part_facts q row left mid r c e in row_part_holds q row left right r c f.0 f.1 (omega arith) f.3)
      (λ r c e. let f = row_part_facts q row mid right r c e in row_part_holds q row left right r c f.0 (omega arith) f.2 f.3)
      (λ r c e. let f = row_part_facts q row left right r c e in
      ⊎_elim (λ lt. inl (row_part_holds q row left mid r c f.0 f.1 lt f.3)) (λ ge. inr (row_part_holds q row mid right r c f.0 ge f.2 f.3)) (split c mid))

-- all columns of a first stretch, then those of a second, one kind after the other
pub columns_row : (w h row left mid right : ℕ) (q k k' : ℕ → Bool) (s : ℕ → ℕ → ℕ) (xs : List ℕ) {ys zs vs : List ℕ} → left ≤ mid → mid ≤ right → ((c : ℕ) → (k c ≡ true) ⊎ (k' c ≡ true))
    → ys ≡ painted w h (row_part q row left mid) s xs
    → zs ≡ painted w h (row_part (λ c. q c && k c) row mid right) s ys
    → vs ≡ painted w h (row_part (λ c. q c && k' c) row mid right) s zs
    → vs ≡ painted w h (row_part q row left right) s xs
columns_row w h row left mid right q k k' s xs {ys} low high all first one other =
    other
    ∙ ap (painted w h (row_part (λ c. q c && k' c) row mid right) s) one
    ∙ columns_all w h row mid ys right q k k' s all
    ∙ ap (painted w h (row_part q row mid right) s) first
    ∙ columns_more w h row left xs mid right q s low high
