-- A loop over rows that lends a part of each row: the plane is painted by what the whole call takes, in the rows below the loop's.
-- Assumes nothing.
use Prim.Native.Nat.{ℕ, ◌+◌, ◌*◌, ◌-◌, ◌<◌, ◌≤◌}
use native.Mathlib.Omega.{arith}
use mathlib.Core.Path.{◌≡◌, refl, sym, ap, ◌∙◌, subst}
use mathlib.Core.Bool.{Bool, true}
use mathlib.Core.List.{List, ◌++◌}
use lib.ListN.{length, take, drop}
use Rattle.lent.specs.Paint.{paint, painted, every, within, row_part, up_to}
use Rattle.lent.proofs.Taken.{within_facts, within_holds, row_part_facts, row_part_holds}
use Rattle.lent.proofs.Painted.{length_painted}
use Rattle.lent.proofs.Parts.{painted_row}
use Rattle.lent.proofs.Rows.{rows_more}

-- of row `row` the call takes the columns from left to below right: they were lent, written and came back
module _ (w h : ℕ) (T : ℕ → ℕ → Bool) (s : ℕ → ℕ → ℕ) (xs : List ℕ) (fits : h * w ≤ length xs) where
  pub part_more : {was is ys : List ℕ} (row left right a e : ℕ) (u : ℕ → ℕ) → row < h → left ≤ right → right ≤ w → a ≡ row * w + left → e ≡ row * w + right
      → ((c : ℕ) → c < w → T row c ≡ within left right c)
      → ((j : ℕ) → left + j < right → u j ≡ s row (left + j))
      → was ≡ painted w h (up_to T row) s xs
      → ys ≡ paint every u (take (e - a) (drop a was))
      → is ≡ take a was ++ (ys ++ drop (e - a) (drop a was))
      → is ≡ painted w h (up_to T (row + 1)) s xs
  part_more {was} {is} {ys} row left right a e u hr hlr hrw a-is e-is taken from before now back =
      (rw (a-is, e-is) at back)
      ∙ painted_row w h One s was (omega (arith, long)) row left right every u ys hr hlr hrw
      (rw (a-is, e-is) at now)
      (λ j hj. row_part_holds every row left right row (left + j) refl (omega arith) hj refl)
      (λ j hj t. from j hj)
      (λ r c t. let f = row_part_facts every row left right r c t in (f.0, f.1, f.2))
      ∙ ap (painted w h One s) before
      ∙ rows_more w h T s xs row One
      (λ r c t. let f = row_part_facts every row left right r c t in
      (f.0, subst (λ (q : ℕ). T q c ≡ true) (sym f.0) (taken c (omega (arith, f.2)) ∙ within_holds left right c f.1 f.2)))
      (λ c hc t. let f = within_facts left right c (sym (taken c hc) ∙ t) in row_part_holds every row left right row c refl f.0 f.1 refl)
    where
      One : ℕ → ℕ → Bool
      One = row_part every row left right

      long : length was ≡ length xs
      long = ap length before ∙ length_painted w h _ s xs
