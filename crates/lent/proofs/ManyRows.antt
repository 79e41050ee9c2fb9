-- A loop over rows that lends several whole rows at once, as a plane of their own: the rows below the loop's hold what is to be written.
-- Assumes nothing.
use Prim.Native.Nat.{ℕ, ◌+◌, ◌*◌, ◌-◌, ◌<◌, ◌≤◌}
use native.Mathlib.Nat.{add-mul, mul-le-mul_right}
use native.Mathlib.Omega.{arith}
use mathlib.Core.Path.{◌≡◌, sym, ap, ◌∙◌}
use mathlib.Core.Bool.{true, false, cond}
use mathlib.Core.Logic.{⊎_elim}
use mathlib.Core.List.{List, ◌++◌}
use lib.ListN.{length, get_or, take, drop, length-drop}
use lib.Seq.{length-take-le}
use borrow.Author.Tests.{lt-ltb, le-ltb}
use Rattle.lent.specs.Paint.{painted, whole, up_to}
use Rattle.lent.proofs.Bools.{split, cond-true, cond-false}
use Rattle.lent.proofs.Cells.{cell_in}
use Rattle.lent.proofs.Painted.{length_painted, painted_at, painted_past, painted_is}
use Rattle.lent.proofs.Parts.{part_length, part_before, part_in, part_after}

-- n whole rows were lent as a plane of their own, all of it written, and came back
module _ (w h : ℕ) (s : ℕ → ℕ → ℕ) (xs : List ℕ) (fits : h * w ≤ length xs) where
  up_to_in : (n r c : ℕ) → r < n → up_to whole n r c ≡ true
  unfolding up_to
  up_to_in n r c lt = lt-ltb r n lt

  up_to_out : (n r c : ℕ) → n ≤ r → up_to whole n r c ≡ false
  unfolding up_to
  up_to_out n r c ge = le-ltb r n ge

  -- the rows that are still to come are as they were
  pub rows_kept : {was : List ℕ} (row r c : ℕ) → was ≡ painted w h (up_to whole row) s xs → row ≤ r → r < h → c < w → get_or was (r * w + c) 0 ≡ get_or xs (r * w + c) 0
  rows_kept row r c before ge hr hc =
      ap (λ (l : List ℕ). get_or l (r * w + c) 0) before
      ∙ painted_at w h (up_to whole row) s xs r c hr hc fits
      ∙ cond-false _ _ _ (up_to_out row r c ge)

  module _ {was is ys : List ℕ} (row n a e : ℕ) (s' : ℕ → ℕ → ℕ) (room : row + n ≤ h) (a-is : a ≡ row * w) (e-is : e ≡ row * w + n * w)
      (before : was ≡ painted w h (up_to whole row) s xs) (now : ys ≡ painted w n whole s' (take (e - a) (drop a was)))
      (from : (r c : ℕ) → r < n → c < w → s' r c ≡ s (row + r) c) (back : is ≡ take a was ++ (ys ++ drop (e - a) (drop a was))) where
    ends : (row + n) * w ≡ row * w + n * w
    ends = add-mul row n w

    inside : (row + n) * w ≤ h * w
    inside = mul-le-mul_right w room

    long : length was ≡ length xs
    long = ap length before ∙ length_painted w h _ s xs

    ordered : a ≤ e
    ordered = omega (arith, a-is, e-is)

    in_was : e ≤ length was
    in_was = omega (arith, e-is, long, ends, inside, fits)

    part_long : length (take (e - a) (drop a was)) ≡ n * w
    part_long = length-take-le (e - a) (drop a was) (simp length-drop (omega (arith, ordered, in_was))) ∙ omega (arith, a-is, e-is)

    ys_long : length ys ≡ e - a
    ys_long = ap length now ∙ length_painted w n _ _ _ ∙ part_long ∙ omega (arith, a-is, e-is)

    all : List ℕ
    all = take a was ++ (ys ++ drop (e - a) (drop a was))

    -- what stood in a row before the call
    stood : (r c : ℕ) → r < h → c < w → get_or was (r * w + c) 0 ≡ cond (up_to whole row r c) (s r c) (get_or xs (r * w + c) 0)
    stood r c hr hc = ap (λ (l : List ℕ). get_or l (r * w + c) 0) before ∙ painted_at w h (up_to whole row) s xs r c hr hc fits

    earlier : (r c : ℕ) → r < h → c < w → r < row → get_or all (r * w + c) 0 ≡ cond (up_to whole (row + n) r c) (s r c) (get_or xs (r * w + c) 0)
    unfolding all
    earlier r c hr hc lt =
        part_before was ys a e ordered in_was ys_long (r * w + c) (omega (arith, a-is, cell_in w row r c lt hc))
        ∙ stood r c hr hc
        ∙ cond-true _ _ _ (up_to_in row r c lt)
        ∙ sym (cond-true _ _ _ (up_to_in (row + n) r c (omega arith)))

    lent : (r c : ℕ) → c < w → row ≤ r → r < row + n → get_or all (r * w + c) 0 ≡ cond (up_to whole (row + n) r c) (s r c) (get_or xs (r * w + c) 0)
    unfolding all
    lent r c hc ge lt =
        let q : ℕ = r - row in
        let r-is : row + q ≡ r = omega arith in
        let starts : (row + q) * w ≡ row * w + q * w = add-mul row q w in
        let start : r * w ≡ row * w + q * w = ap (λ (m : ℕ). m * w) (sym r-is) ∙ starts in
        let k-is : r * w + c ≡ a + (q * w + c) = omega (arith, start, a-is) in
        let hq : q < n = omega arith in
        ap (λ (k : ℕ). get_or all k 0) k-is
        ∙ part_in was ys a e ordered in_was ys_long (q * w + c) (omega (arith, a-is, e-is, cell_in w n q c hq hc))
        ∙ ap (λ (l : List ℕ). get_or l (q * w + c) 0) now
        ∙ painted_at w n whole s' (take (e - a) (drop a was)) q c hq hc (omega (arith, part_long))
        ∙ from q c hq hc
        ∙ ap (λ (m : ℕ). s m c) r-is
        ∙ sym (cond-true _ _ _ (up_to_in (row + n) r c lt))

    later : (r c : ℕ) → r < h → c < w → row + n ≤ r → get_or all (r * w + c) 0 ≡ cond (up_to whole (row + n) r c) (s r c) (get_or xs (r * w + c) 0)
    unfolding all
    later r c hr hc ge =
        let start : (row + n) * w ≤ r * w = mul-le-mul_right w ge in
        part_after was ys a e ordered in_was ys_long (r * w + c) (omega (arith, start, ends, e-is))
        ∙ stood r c hr hc
        ∙ cond-false _ _ _ (up_to_out row r c (omega arith))
        ∙ sym (cond-false _ _ _ (up_to_out (row + n) r c ge))

    past : (k : ℕ) → h * w ≤ k → k < length xs → get_or all k 0 ≡ get_or xs k 0
    unfolding all
    past k ge lt =
        part_after was ys a e ordered in_was ys_long k (omega (arith, ends, inside, e-is))
        ∙ ap (λ (l : List ℕ). get_or l k 0) before
        ∙ painted_past w h (up_to whole row) s xs k ge lt

    pub many_more : is ≡ painted w h (up_to whole (row + n)) s xs
    unfolding all
    many_more =
        back
        ∙ painted_is w h (up_to whole (row + n)) s xs all (part_length was ys a e ordered in_was ys_long ∙ long)
        (λ r c hr hc. ⊎_elim (earlier r c hr hc) (λ ge. ⊎_elim (lent r c hc ge) (later r c hr hc) (split r (row + n))) (split r row))
        past
