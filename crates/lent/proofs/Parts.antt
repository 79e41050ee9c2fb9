-- A part `&mut xs[a..e]` that was lent and has come back as ys: what the whole buffer holds then, and that it is `painted`. Every row
-- writer goes through `painted_row`.
-- Assumes nothing.
use Prim.Native.Nat.{ℕ, ◌+◌, ◌*◌, ◌/◌, ◌%◌, ◌-◌, ◌<◌, ◌≤◌}
use native.Mathlib.Omega.{arith}
use mathlib.Core.Path.{◌≡◌, refl, sym, ap, ◌∙◌, subst}
use mathlib.Core.Bool.{Bool, true, cond, ◌&&◌}
use mathlib.Core.Logic.{⊎_elim}
use mathlib.Core.List.{List, ◌++◌}
use lib.ListN.{length, get_or, take, drop, length-append, length-drop, get_or-append}
use lib.Seq.{get_or-take, get_or-drop, get_or-append-add, length-take-le}
use borrow.Author.Tests.{lt-ltb, le-ltb}
use Rattle.lent.specs.Paint.{paint, painted, every, whole}
use Rattle.lent.proofs.Bools.{split, never_true, both, cond-false, cond-true, cond_ext}
use Rattle.lent.proofs.Paint.{length-paint, get_d_paint, paint_is}
use Rattle.lent.proofs.Cells.{row_in, row_after}
use Rattle.lent.proofs.Painted.{painted_is}

module _ (xs ys : List ℕ) (a e : ℕ) (ordered : a ≤ e) (fits : e ≤ length xs) (long : length ys ≡ e - a) where
  front_long : length (take a xs) ≡ a
  front_long = length-take-le a xs (omega arith)

  pub part_length : length (take a xs ++ (ys ++ drop (e - a) (drop a xs))) ≡ length xs
  part_length = simp (length-append, length-drop) (omega (arith, front_long))

  pub part_before : (k : ℕ) → k < a → get_or (take a xs ++ (ys ++ drop (e - a) (drop a xs))) k 0 ≡ get_or xs k 0
  part_before k h = get_or-append (take a xs) _ 0 k (omega (arith, front_long)) ∙ get_or-take a xs k 0 h

  pub part_in : (j : ℕ) → j < e - a → get_or (take a xs ++ (ys ++ drop (e - a) (drop a xs))) (a + j) 0 ≡ get_or ys j 0
  part_in j h =
      ap (λ (n : ℕ). get_or (take a xs ++ (ys ++ drop (e - a) (drop a xs))) (n + j) 0) (sym front_long)
      ∙ get_or-append-add (take a xs) _ j 0
      ∙ get_or-append ys _ 0 j (omega arith)

  pub part_after : (k : ℕ) → e ≤ k → get_or (take a xs ++ (ys ++ drop (e - a) (drop a xs))) k 0 ≡ get_or xs k 0
  part_after k h =
      let k-is : k ≡ length (take a xs) + (length ys + (k - e)) = omega (arith, front_long) in
      ap (λ (n : ℕ). get_or (take a xs ++ (ys ++ drop (e - a) (drop a xs))) n 0) k-is
      ∙ get_or-append-add (take a xs) _ (length ys + (k - e)) 0
      ∙ get_or-append-add ys _ (k - e) 0
      ∙ get_or-drop (e - a) (drop a xs) (k - e) 0
      ∙ get_or-drop a xs (e - a + (k - e)) 0
      ∙ ap (λ (n : ℕ). get_or xs n 0) (omega arith)

-- one row's part, painted by a row writer, is the plane painted: T says which places of the plane are taken, t which of the part's
module _ (w h : ℕ) (T : ℕ → ℕ → Bool) (s : ℕ → ℕ → ℕ) (xs : List ℕ) (fits : h * w ≤ length xs) where
  pub painted_row : (row left right : ℕ) (t : ℕ → Bool) (u : ℕ → ℕ) (ys : List ℕ) → row < h → left ≤ right → right ≤ w
      → ys ≡ paint t u (take (row * w + right - (row * w + left)) (drop (row * w + left) xs))
      → ((j : ℕ) → left + j < right → T row (left + j) ≡ t j)
      → ((j : ℕ) → left + j < right → t j ≡ true → u j ≡ s row (left + j))
      → ((r c : ℕ) → T r c ≡ true → (r ≡ row) × (left ≤ c) × (c < right))
      → take (row * w + left) xs ++ (ys ++ drop (row * w + right - (row * w + left)) (drop (row * w + left) xs)) ≡ painted w h T s xs
  painted_row row left right t u ys hr hlr hrw is same from only =
      painted_is w h T s xs all (part_length xs ys a e (omega arith) room long)
      (λ r c hr' hc. ⊎_elim
      (λ lt. out r c (part_before xs ys a e (omega arith) room long (r * w + c) (omega (arith, row_after w r row lt))) (λ z. omega (arith, only r c z)))
      (λ ge. ⊎_elim
      (λ lt. out r c (part_after xs ys a e (omega arith) room long (r * w + c) (omega (arith, row_after w row r lt))) (λ z. omega (arith, only r c z)))
      (λ ge'. let eq : r ≡ row = omega arith in subst (λ (q : ℕ). get_or all (q * w + c) 0 ≡ cond (T q c) (s q c) (get_or xs (q * w + c) 0)) (sym eq) (here c hc))
      (split row r))
      (split r row))
      (λ k hk lt. part_after xs ys a e (omega arith) room long k (omega (arith, row_in w h row hr)))
    where
      a : ℕ
      a = row * w + left

      e : ℕ
      e = row * w + right

      all : List ℕ
      all = take a xs ++ (ys ++ drop (e - a) (drop a xs))

      room : e ≤ length xs
      room = omega (arith, row_in w h row hr)

      part_long : length (take (e - a) (drop a xs)) ≡ e - a
      part_long = length-take-le (e - a) (drop a xs) (simp length-drop (omega (arith, room)))

      long : length ys ≡ e - a
      long = ap length is ∙ length-paint _ _ _ ∙ part_long

      out : (r c : ℕ) → get_or all (r * w + c) 0 ≡ get_or xs (r * w + c) 0 → (T r c ≡ true → ⊥) → get_or all (r * w + c) 0 ≡ cond (T r c) (s r c) (get_or xs (r * w + c) 0)
      out r c g never = g ∙ sym (cond-false (T r c) (s r c) _ (never_true (T r c) never))

      inside : (j : ℕ) → left + j < right → get_or all (a + j) 0 ≡ cond (T row (left + j)) (s row (left + j)) (get_or xs (a + j) 0)
      inside j h =
          part_in xs ys a e (omega arith) room long j (omega arith)
          ∙ ap (λ (l : List ℕ). get_or l j 0) is
          ∙ get_d_paint t u _ j (omega (arith, part_long))
          ∙ ap (λ (v : ℕ). cond (t j) (u j) v) (get_or-take (e - a) (drop a xs) j 0 (omega arith) ∙ get_or-drop a xs j 0)
          ∙ cond_ext (t j) (T row (left + j)) (u j) (s row (left + j)) _ (sym (same j h)) (from j h)

      here : (c : ℕ) → c < w → get_or all (row * w + c) 0 ≡ cond (T row c) (s row c) (get_or xs (row * w + c) 0)
      here c hc = ⊎_elim
          (λ lt. out row c (part_before xs ys a e (omega arith) room long (row * w + c) (omega arith)) (λ z. omega (arith, only row c z)))
          (λ ge. ⊎_elim
          (λ lt. let c-is : left + (c - left) ≡ c = omega arith in
          let k-is : a + (c - left) ≡ row * w + c = omega arith in
          (ap (λ (k : ℕ). get_or all k 0) (sym k-is) ∙ inside (c - left) (omega arith)) ∙ (λ i. cond (T row (c-is i)) (s row (c-is i)) (get_or xs (k-is i) 0)))
          (λ ge'. out row c (part_after xs ys a e (omega arith) room long (row * w + c) (omega arith)) (λ z. omega (arith, only row c z)))
          (split c right))
          (split c left)

-- the front of a buffer, painted whole, is the plane painted whole
pub painted_front : (w h : ℕ) (s : ℕ → ℕ → ℕ) (xs ys : List ℕ) → h * w ≤ length xs → ys ≡ paint every (λ k. s (k / w) (k % w)) (take (h * w) xs) → ys ++ drop (h * w) xs ≡ painted w h whole s xs
unfolding painted
painted_front w h s xs ys fits is =
    paint_is _ _ xs (ys ++ drop (h * w) xs) (simp (length-append, length-drop) (omega (arith, long)))
    (λ k hk. ⊎_elim
    (λ lt. get_or-append ys _ 0 k (omega (arith, long)) ∙ ap (λ (l : List ℕ). get_or l k 0) is ∙ get_d_paint every _ _ k (omega (arith, room)) ∙ sym (cond-true _ _ _ (both _ _ (lt-ltb k (h * w) lt) refl)))
    (λ ge. let k-is : k ≡ length ys + (k - h * w) = omega (arith, long) in
    ap (λ (n : ℕ). get_or (ys ++ drop (h * w) xs) n 0) k-is
    ∙ get_or-append-add ys _ (k - h * w) 0 ∙ get_or-drop (h * w) xs (k - h * w) 0
    ∙ ap (λ (n : ℕ). get_or xs n 0) (omega arith)
    ∙ sym (cond-false _ _ _ (ap (λ (b : Bool). b && true) (le-ltb k (h * w) ge))))
    (split k (h * w)))
  where
    room : length (take (h * w) xs) ≡ h * w
    room = length-take-le (h * w) xs fits

    long : length ys ≡ h * w
    long = ap length is ∙ length-paint every _ _ ∙ room
