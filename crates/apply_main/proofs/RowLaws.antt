-- One row, over any source: of what is taken, the view has the rows below `seen`.
-- Assumes nothing.
use Prim.Native.Nat.{ℕ, ◌+◌, ◌*◌, ◌/◌, ◌%◌, ◌-◌, ◌<◌, ◌≤◌}
use native.Mathlib.Omega.{arith}
use mathlib.Core.Path.{◌≡◌, refl, sym, ap, ◌∙◌, subst}
use mathlib.Core.Bool.{Bool, true}
use mathlib.Core.List.{List, ◌++◌}
use lib.ListN.{length, get_or, take, drop}
use lib.Seq.{get_or-take, get_or-drop}
use borrow.Author.Tests.{lt-ltb, ltb-true}
use Rattle.lent.specs.Paint.{paint, painted, every, within, row_part, up_to}
use Rattle.lent.specs.Samples.{sample}
use Rattle.lent.specs.Sizes.{half_up}
use Rattle.lent.specs.Spread.{spread_at}
use Rattle.lent.proofs.Bools.{never_true, both, both_left, both_right}
use Rattle.lent.proofs.ByPart.{part_within}
use Rattle.lent.proofs.Cells.{row_in}
use Rattle.lent.proofs.Paint.{length-paint}
use Rattle.lent.proofs.Painted.{painted_none}
use Rattle.lent.proofs.Parts.{painted_row}
use Rattle.lent.proofs.Taken.{row_part_facts, row_part_holds}
use Rattle.apply_main.specs.Rows.{halved}

-- ---- of what t takes, the rows below n

module _ (t : ℕ → ℕ → Bool) (n r c : ℕ) where
  pub up_to_facts : up_to t n r c ≡ true → (t r c ≡ true) × (r < n)
  unfolding up_to
  up_to_facts e = (both_left (t r c) _ e, ltb-true r n (both_right (t r c) _ e))

  pub up_to_holds : t r c ≡ true → r < n → up_to t n r c ≡ true
  unfolding up_to
  up_to_holds e lt = both (t r c) _ e (lt-ltb r n lt)

-- ---- one row: the columns from left to below right

-- row `row` lies in the n bytes that hold h rows of w bytes; the code's stride is m
pub line_fits : (w h n row m : ℕ) → m ≡ w → h * w ≤ n → row < h → row * m + w ≤ n
line_fits w h n row m e fits lt = subst (λ (k : ℕ). row * k + w ≤ n) (sym e) (omega (arith, row_in w h row lt))

module _ (w h row left right seen : ℕ) (s : ℕ → ℕ → ℕ) (xs : List ℕ) where
  -- the view has no such row
  pub row_absent : seen ≤ row → xs ≡ painted w h (up_to (row_part every row left right) seen) s xs
  row_absent late =
      painted_none w h _ s xs
      (λ r c hr hc. never_true _ (λ e. let f = up_to_facts _ seen r c e in omega (arith, f.1, row_part_facts every row left right r c f.0)))

  -- the row's part was lent and came back written; the code's stride is n
  pub row_written : (n : ℕ) (u : ℕ → ℕ) (ys : List ℕ) → n ≡ w → h * w ≤ length xs → row < h → row < seen → left ≤ right → right ≤ w
      → ys ≡ paint every u (take (row * n + right - (row * n + left)) (drop (row * n + left) xs))
      → ((j : ℕ) → left + j < right → u j ≡ s row (left + j))
      → take (row * n + left) xs ++ (ys ++ drop (row * n + right - (row * n + left)) (drop (row * n + left) xs)) ≡ painted w h (up_to (row_part every row left right) seen) s xs
  row_written n u ys e fits hr hs ordered inside is from =
      subst
      (λ (m : ℕ). ys ≡ paint every u (take (row * m + right - (row * m + left)) (drop (row * m + left) xs))
      → take (row * m + left) xs ++ (ys ++ drop (row * m + right - (row * m + left)) (drop (row * m + left) xs)) ≡ painted w h (up_to (row_part every row left right) seen) s xs)
      (sym e)
      (λ is. painted_row w h _ s xs fits row left right every u ys hr ordered inside is
      (λ j lt. up_to_holds _ seen row (left + j) (row_part_holds every row left right row (left + j) refl (omega arith) lt refl) hs)
      (λ j lt held. from j lt)
      (λ r c held. let f = row_part_facts every row left right r c (up_to_facts _ seen r c held).0 in (f.0, f.1, f.2)))
      is

  -- each byte of the part goes to two columns of the row; the code has the row's part start at a
  row_spread : (part : List ℕ) (a : ℕ) → a ≡ row * w + left → h * w ≤ length xs → row < h → row < seen → left ≤ right → right ≤ w
      → ((j : ℕ) → left + j < right → get_or part (j / 2) 0 ≡ s row (left + j))
      → spread_at a (right - left) part xs ≡ painted w h (up_to (row_part every row left right) seen) s xs
  row_spread part a is fits hr hs ordered inside from =
      let end : a + (right - left) ≡ row * w + right = omega arith in
      (λ i. paint (within (is i) (end i)) (λ k. get_or part ((k - is i) / 2) 0) xs)
      ∙ sym (part_within xs (row * w + left) (row * w + right) (λ j. get_or part (j / 2) 0) (omega arith) (omega (arith, row_in w h row hr)) refl)
      ∙ row_written w (λ j. get_or part (j / 2) 0) _ refl fits hr hs ordered inside refl from

-- ---- a part of a view's chroma row is read, and each byte goes to two columns

pub part_halved : (plane : List ℕ) (stride r start left right j : ℕ) → start ≡ r / 2 * stride → left % 2 ≡ 0 → left + j < right
    → get_or (take (start + half_up right - (start + left / 2)) (drop (start + left / 2) plane)) (j / 2) 0 ≡ halved plane stride r (left + j)
unfolding halved sample
part_halved plane stride r start left right j is even lt =
    get_or-take (start + half_up right - (start + left / 2)) (drop (start + left / 2) plane) (j / 2) 0 (omega arith)
    ∙ get_or-drop (start + left / 2) plane (j / 2) 0
    ∙ ap (λ (k : ℕ). get_or plane k 0) (omega arith)

-- two rows of the plane, of which the first is even, take the same part; the code's stride is n
pub two_rows_halved : (w h row left right seen : ℕ) (xs plane : List ℕ) (stride start n : ℕ) {ys : List ℕ} → n ≡ w → start ≡ row / 2 * stride → row % 2 ≡ 0 → left % 2 ≡ 0
    → h * w ≤ length xs → row + 1 < h → row + 1 < seen → left ≤ right → right ≤ w
    → (let part = take (start + half_up right - (start + left / 2)) (drop (start + left / 2) plane) in
    ys ≡ spread_at (row * n + left + n) (right - left) part (spread_at (row * n + left) (right - left) part xs))
    → ys ≡ painted w h (up_to (row_part every (row + 1) left right) seen) (halved plane stride) (painted w h (up_to (row_part every row left right) seen) (halved plane stride) xs)
two_rows_halved w h row left right seen xs plane stride start n is at even even' fits hr hs ordered inside back =
    let part = take (start + half_up right - (start + left / 2)) (drop (start + left / 2) plane) in
    let next : row * w + left + w ≡ (row + 1) * w + left = omega arith in
    let same : row / 2 ≡ (row + 1) / 2 = omega arith in
    back
    ∙ row_spread w h (row + 1) left right seen _ (spread_at (row * n + left) (right - left) part xs) part (row * n + left + n) (ap (λ (m : ℕ). row * m + left + m) is ∙ next)
    (simp length-paint fits) hr hs ordered inside (λ j lt. part_halved plane stride (row + 1) start left right j (at ∙ ap (λ (r : ℕ). r * stride) same) even' lt)
    ∙ ap (painted w h (up_to (row_part every (row + 1) left right) seen) (halved plane stride))
    (row_spread w h row left right seen _ xs part (row * n + left) (ap (λ (m : ℕ). row * m + left) is) fits (omega arith) (omega arith) ordered inside
    (λ j lt. part_halved plane stride row start left right j at even' lt))
