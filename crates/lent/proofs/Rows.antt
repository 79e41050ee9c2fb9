-- A loop over rows: the plane is painted by what the whole call takes, in the rows below the loop's. Then the same where every place is
-- written, each row as a part that is lent and comes back.
-- Assumes nothing.
use Prim.Native.Nat.{ℕ, ◌+◌, ◌*◌, ◌-◌, ◌<◌, ◌≤◌}
use native.Mathlib.Nat.{add-zero, zero-add}
use native.Mathlib.Omega.{arith}
use mathlib.Core.Path.{◌≡◌, refl, sym, ap, ◌∙◌, subst}
use mathlib.Core.Bool.{Bool, true, ◌&&◌, ◌||◌}
use mathlib.Core.Logic.{⊎_elim}
use mathlib.Core.List.{List, ◌++◌}
use lib.Dec.{ltb}
use lib.ListN.{length, take, drop}
use borrow.Author.Tests.{lt-ltb, ltb-true}
use Rattle.lent.specs.Paint.{paint, painted, every, whole, row_part, up_to}
use Rattle.lent.proofs.Bools.{split, same_test, never_true, both, both_left, both_right, either, or_left, or_right}
use Rattle.lent.proofs.Painted.{painted_none, painted_more, painted_ext, length_painted}
use Rattle.lent.proofs.Parts.{painted_row}
use Rattle.lent.proofs.Taken.{row_part_facts, row_part_holds}

module _ (w h : ℕ) (T : ℕ → ℕ → Bool) (s : ℕ → ℕ → ℕ) (xs : List ℕ) (row : ℕ) where
  pub rows_none : ((r c : ℕ) → T r c ≡ true → row ≤ r) → xs ≡ painted w h (up_to T row) s xs
  unfolding up_to
  rows_none f =
      painted_none w h (up_to T row) s xs
      (λ r c hr hc. never_true (T r c && ltb r row) (λ e. omega (arith, f r c (both_left (T r c) _ e), ltb-true r row (both_right (T r c) _ e))))

  pub rows_more : (One : ℕ → ℕ → Bool) → ((r c : ℕ) → One r c ≡ true → (r ≡ row) × (T r c ≡ true)) → ((c : ℕ) → c < w → T row c ≡ true → One row c ≡ true) → painted w h One s (painted w h (up_to T row) s xs) ≡ painted w h (up_to T (row + 1)) s xs
  unfolding up_to
  rows_more One f g =
      painted_more w h (up_to T row) One s xs
      ∙ painted_ext w h _ _ s s xs
      (λ r c hr hc. same_test ((T r c && ltb r row) || One r c) (T r c && ltb r (row + 1))
      (λ e. ⊎_elim
      (λ p. both (T r c) _ (both_left (T r c) _ p) (lt-ltb r (row + 1) (omega (arith, ltb-true r row (both_right (T r c) _ p)))))
      (λ p. both (T r c) _ (f r c p).1 (lt-ltb r (row + 1) (omega (arith, (f r c p).0))))
      (either (T r c && ltb r row) (One r c) e))
      (λ e. ⊎_elim
      (λ lt. or_left (T r c && ltb r row) (One r c) (both (T r c) _ (both_left (T r c) _ e) (lt-ltb r row lt)))
      (λ ge. or_right (T r c && ltb r row) (One r c)
      (let eq : row ≡ r = omega (arith, ltb-true r (row + 1) (both_right (T r c) _ e)) in
      subst (λ (q : ℕ). T q c ≡ true → One q c ≡ true) eq (g c hc) (both_left (T r c) _ e)))
      (split r row)))
      (λ r c hr hc e. refl)

  pub rows_all : ((r c : ℕ) → r < h → c < w → T r c ≡ true → r < row) → painted w h (up_to T row) s xs ≡ painted w h T s xs
  unfolding up_to
  rows_all f =
      painted_ext w h _ _ s s xs
      (λ r c hr hc. same_test (T r c && ltb r row) (T r c) (λ e. both_left (T r c) _ e) (λ e. both (T r c) _ e (lt-ltb r row (f r c hr hc e))))
      (λ r c hr hc e. refl)

-- ---- every place is written

module _ (w h : ℕ) (s : ℕ → ℕ → ℕ) (xs : List ℕ) where
  pub whole_none : xs ≡ painted w h (up_to whole 0) s xs
  whole_none = rows_none w h whole s xs 0 (λ r c e. omega arith)

  pub whole_all : (row : ℕ) → h ≤ row → painted w h (up_to whole row) s xs ≡ painted w h whole s xs
  whole_all row end = rows_all w h whole s xs row (λ r c hr hc e. omega arith)

  -- row `row` was lent, painted and came back, where the rows before it are done
  pub whole_more : {was is ys : List ℕ} (row : ℕ) → row < h → h * w ≤ length xs → was ≡ painted w h (up_to whole row) s xs
      → ys ≡ paint every (s row) (take (row * w + w - row * w) (drop (row * w) was))
      → is ≡ take (row * w) was ++ (ys ++ drop (row * w + w - row * w) (drop (row * w) was))
      → is ≡ painted w h (up_to whole (row + 1)) s xs
  whole_more {was} {is} {ys} row lt fits before now back =
      back
      ∙ simp add-zero at (painted_row w h One s was (omega (arith, long)) row 0 w every (s row) ys lt (omega arith) (omega arith)
      (simp add-zero now)
      (λ j hj. row_part_holds every row 0 w row (0 + j) refl (omega arith) hj refl)
      (λ j hj e. ap (s row) (sym (zero-add j)))
      (λ r c e. let f = row_part_facts every row 0 w r c e in (f.0, f.1, f.2)))
      ∙ ap (painted w h One s) before
      ∙ one_more
    where
      One : ℕ → ℕ → Bool
      One = row_part every row 0 w

      long : length was ≡ length xs
      long = ap length before ∙ length_painted w h _ s xs

      one_more : painted w h One s (painted w h (up_to whole row) s xs) ≡ painted w h (up_to whole (row + 1)) s xs
      one_more =
          rows_more w h whole s xs row One
          (λ r c e. ((row_part_facts every row 0 w r c e).0, refl))
          (λ c hc e. row_part_holds every row 0 w row c refl (omega arith) hc refl)
