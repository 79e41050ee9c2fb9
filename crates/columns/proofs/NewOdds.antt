-- A row whose odd places are new, written whole: an even place gets the byte that it has.
-- Assumes nothing.
use Prim.Native.Nat.{ℕ, ◌+◌, ◌-◌, ◌*◌, ◌/◌, ◌<◌, ◌≤◌}
use native.Mathlib.Omega.{arith}
use mathlib.Core.Path.{◌≡◌, refl, sym, ap, ◌∙◌}
use mathlib.Core.Logic.{⊎_elim}
use mathlib.Core.List.{List, ◌++◌}
use lib.Dec.{ltb}
use lib.ListN.{length, get_or, take, drop}
use lib.Seq.{get_or-take, get_or-drop}
use Rattle.lent.specs.Paint.{paint, every}
use Rattle.lent.proofs.Bools.{cond-true, cond-false}
use Rattle.lent.proofs.Paint.{get_d_paint, paint_is, length-paint}
use Rattle.lent.proofs.Copies.{by_array}
use Rattle.lent.proofs.SoFar.{SoFar, so_far_all}
use Rattle.lent.proofs.ByPart.{part_long, so_far_past, so_far_part, so_far_part_over}
use Rattle.columns.specs.Turns.{odd, new_odds}
use Rattle.columns.proofs.Turns.{is_odd, not-odd, parity}

-- to write an even place with its own byte is to leave it
new_all : (from xs : List ℕ) → paint every (new_odds from xs) xs ≡ paint odd (λ k. get_or from (k / 2) 0) xs
unfolding new_odds
new_all from xs = paint_is odd _ xs _ (length-paint every _ xs) (λ k h. get_d_paint every _ xs k h)

module _ (from xs : List ℕ) where
  pub new_even : (i : ℕ) → new_odds from xs (2 * i) ≡ get_or xs (2 * i) 0
  unfolding new_odds
  new_even i = cond-false (odd (2 * i)) _ _ (not-odd (2 * i) (omega arith))

  pub new_odd : (i : ℕ) → new_odds from xs (2 * i + 1) ≡ get_or from i 0
  unfolding new_odds
  new_odd i =
      let half : (2 * i + 1) / 2 ≡ i = omega arith in
      cond-true (odd (2 * i + 1)) _ _ (is_odd (2 * i + 1) (omega arith)) ∙ ap (λ (m : ℕ). get_or from m 0) half

  -- 16 places that were found in t, all of the row
  pub whole_16 : {ys t : List ℕ} (t₀ : List ℕ) → length xs ≡ 16 → length t₀ ≡ 16 → t ≡ paint (λ k. ltb k (2 * 8)) (new_odds from xs) t₀
      → ys ≡ paint (λ k. ltb k 16) (λ k. get_or t k 0) xs
      → ys ≡ paint odd (λ k. get_or from (k / 2) 0) xs
  whole_16 t₀ long array found is =
      is ∙ ap (λ (l : List ℕ). paint (λ k. ltb k 16) (λ k. get_or l k 0) xs) found ∙ by_array xs t₀ (new_odds from xs) 16 long (omega arith) ∙ new_all from xs

  -- a part of the row, from the even place 2 i on, which is as it was, with its part of `from`
  new_part : (was : List ℕ) (i m n j : ℕ) → 2 * i + j < length xs → j < n → j / 2 < m → get_or was (2 * i + j) 0 ≡ get_or xs (2 * i + j) 0
      → new_odds (take m (drop i from)) (take n (drop (2 * i) was)) j ≡ new_odds from xs (2 * i + j)
  unfolding new_odds
  new_part was i m n j h hn hm same = ⊎_elim
      (λ o. let is : i + j / 2 ≡ (2 * i + j) / 2 = omega arith in
      cond-true (odd j) _ _ (is_odd j o)
      ∙ get_or-take m (drop i from) (j / 2) 0 hm ∙ get_or-drop i from (j / 2) 0 ∙ ap (λ (k : ℕ). get_or from k 0) is
      ∙ sym (cond-true (odd (2 * i + j)) _ _ (is_odd (2 * i + j) (omega arith))))
      (λ e. cond-false (odd j) _ _ (not-odd j e)
      ∙ get_or-take n (drop (2 * i) was) j 0 hn ∙ get_or-drop (2 * i) was j 0 ∙ same
      ∙ sym (cond-false (odd (2 * i + j)) _ _ (not-odd (2 * i + j) (omega arith))))
      (parity j)

  -- a turn: the next 16 places were lent and came back with their odd places new
  pub new_more : {was ys : List ℕ} (i : ℕ) → SoFar (new_odds from xs) xs was (2 * i) → 2 * i + 16 ≤ length xs
      → ys ≡ paint odd (λ k. get_or (take (i + 8 - i) (drop i from)) (k / 2) 0) (take (2 * i + 16 - 2 * i) (drop (2 * i) was))
      → SoFar (new_odds from xs) xs (take (2 * i) was ++ (ys ++ drop (2 * i + 16 - 2 * i) (drop (2 * i) was))) (2 * (i + 8))
  new_more {was} i f room is =
      let next : 2 * i + 16 ≡ 2 * (i + 8) = omega arith in
      let more = so_far_part (new_odds from xs) xs (2 * i) (2 * i + 16) _ (omega arith) room f (is ∙ sym (new_all (take (i + 8 - i) (drop i from)) _))
      (λ j h. new_part was i (i + 8 - i) (2 * i + 16 - 2 * i) j (omega arith) (omega arith) (omega arith) (so_far_past (new_odds from xs) xs (2 * i) (2 * i + j) f (omega arith) (omega arith))) in
      (more.0, more.1 ∙ ap (λ (m : ℕ). paint (λ k. ltb k m) (new_odds from xs) xs) next)

  -- the last turn, from place 2 m on: what it leaves was found in t before the first
  pub new_last : {was ys t : List ℕ} (t₀ : List ℕ) (i m : ℕ) → SoFar (new_odds from xs) xs was (2 * i) → m ≤ i → i ≤ m + 8 → length xs ≡ 2 * m + 16 → length t₀ ≡ 16
      → t ≡ paint (λ k. ltb k (2 * 8)) (new_odds (take (m + 8 - m) (drop m from)) (take (2 * m + 16 - 2 * m) (drop (2 * m) xs))) t₀
      → ys ≡ paint (λ k. ltb k 16) (λ k. get_or t k 0) (take (2 * m + 16 - 2 * m) (drop (2 * m) was))
      → take (2 * m) was ++ (ys ++ drop (2 * m + 16 - 2 * m) (drop (2 * m) was)) ≡ paint odd (λ k. get_or from (k / 2) 0) xs
  new_last {was} {ys} {t} t₀ i m f near ends long array found is =
      let new : ℕ → ℕ = new_odds (take (m + 8 - m) (drop m from)) (take (2 * m + 16 - 2 * m) (drop (2 * m) xs)) in
      let part : List ℕ = take (2 * m + 16 - 2 * m) (drop (2 * m) was) in
      let whole : length part ≡ 16 = part_long was (2 * m) (2 * m + 16) (omega arith) (omega (arith, f.0)) ∙ omega arith in
      let back : ys ≡ paint every new part = is ∙ ap (λ (l : List ℕ). paint (λ k. ltb k 16) (λ k. get_or l k 0) part) found ∙ by_array part t₀ new 16 whole (omega arith) in
      so_far_all (new_odds from xs) xs (2 * m + 16)
      (so_far_part_over (new_odds from xs) xs (2 * i) (2 * m) (2 * m + 16) new (omega arith) (omega arith) (omega arith) f back
      (λ j h. new_part xs m (m + 8 - m) (2 * m + 16 - 2 * m) j (omega arith) (omega arith) (omega arith) refl))
      (omega arith)
      ∙ new_all from xs
