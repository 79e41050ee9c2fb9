-- Loops over the columns of a row that was lent, each turn through a part of it or by a word: what a turn leaves. Assumes nothing.
use Prim.Native.Nat.{ℕ, ◌+◌, ◌-◌, ◌*◌, ◌%◌, ◌<◌, ◌≤◌}
use native.Mathlib.Omega.{arith}
use mathlib.Core.Path.{◌≡◌, refl, sym, ap, ◌∙◌, subst}
use mathlib.Core.Bool.{Bool, true, cond, ◌&&◌, and-true}
use mathlib.Core.Logic.{⊎_elim}
use mathlib.Core.List.{List, ◌++◌}
use lib.Dec.{ltb}
use lib.ListN.{length, get_or, set, take, drop, length-drop, length-set}
use lib.Seq.{get_or-take, get_or-drop, length-take-le, set-get_or}
use borrow.Author.Tests.{lt-ltb, le-ltb, ltb-true}
use Rattle.lent.specs.Paint.{paint, every}
use Rattle.lent.proofs.Bools.{split, same_test, both, both_left, both_right, cond_ext, cond-false}
use Rattle.lent.proofs.Paint.{length-paint, get_d_paint, paint_none, paint_is, paint_ext, paint-set}
use Rattle.lent.proofs.Parts.{part_length, part_before, part_in, part_after}
use Rattle.columns.specs.Turns.{odd}
use Rattle.columns.proofs.Turns.{is_odd, odd-true}

-- ys is xs, of which the places below n that p takes are painted
abbrev pub Below : (ℕ → Bool) → (ℕ → ℕ) → List ℕ → List ℕ → ℕ → Type 0
Below p s xs ys n = (length ys ≡ length xs) × (ys ≡ paint (λ k. ltb k n && p k) s xs)

module _ (p : ℕ → Bool) (s : ℕ → ℕ) (xs : List ℕ) where
  pub below_none : Below p s xs xs 0
  below_none = (refl, paint_none _ s xs (λ k h. ap (λ (b : Bool). b && p k) (le-ltb k 0 (omega arith))))

  pub below_all : {ys : List ℕ} (n : ℕ) → Below p s xs ys n → length xs ≤ n → ys ≡ paint p s xs
  below_all n f end = f.1 ∙ paint_ext _ p s s xs (λ k h. ap (λ (b : Bool). b && p k) (lt-ltb k n (omega arith))) (λ k h e. refl)

  -- one turn: the places from a to below e were lent, painted and came back
  pub below_more : {was ys : List ℕ} {t : ℕ → Bool} {u : ℕ → ℕ} (a e : ℕ) → a ≤ e → e ≤ length xs → Below p s xs was a
      → ys ≡ paint t u (take (e - a) (drop a was))
      → ((j : ℕ) → a + j < e → p (a + j) ≡ t j)
      → ((j : ℕ) → a + j < e → t j ≡ true → u j ≡ s (a + j))
      → Below p s xs (take a was ++ (ys ++ drop (e - a) (drop a was))) e
  below_more {was} {ys} {t} {u} a e ordered fits before is same from = (
    all_long,
    paint_is _ s xs all all_long
        (λ k h. ⊎_elim
        (λ lt. part_before was ys a e ordered room long k lt ∙ old k h (lt-ltb k a lt ∙ sym (lt-ltb k e (omega arith))))
        (λ ge. ⊎_elim
        (λ lt. let k-is : a + (k - a) ≡ k = omega arith in
        subst (λ (m : ℕ). get_or all m 0 ≡ cond (ltb m e && p m) (s m) (get_or xs m 0)) k-is (new (k - a) (omega arith)))
        (λ ge'. part_after was ys a e ordered room long k ge' ∙ old k h (le-ltb k a (omega arith) ∙ sym (le-ltb k e ge')))
        (split k e))
        (split k a)),
  )
    where
      all : List ℕ
      all = take a was ++ (ys ++ drop (e - a) (drop a was))

      room : e ≤ length was
      room = omega (arith, before.0, fits)

      part_long : length (take (e - a) (drop a was)) ≡ e - a
      part_long = length-take-le (e - a) (drop a was) (simp length-drop (omega (arith, ordered, room)))

      long : length ys ≡ e - a
      long = ap length is ∙ length-paint t u _ ∙ part_long

      all_long : length all ≡ length xs
      all_long = part_length was ys a e ordered room long ∙ before.0

      old : (k : ℕ) → k < length xs → ltb k a ≡ ltb k e → get_or was k 0 ≡ cond (ltb k e && p k) (s k) (get_or xs k 0)
      old k h alike = ap (λ (l : List ℕ). get_or l k 0) before.1 ∙ get_d_paint _ s xs k h ∙ ap (λ (b : Bool). cond (b && p k) (s k) (get_or xs k 0)) alike

      was_at : (j : ℕ) → a + j < e → get_or was (a + j) 0 ≡ get_or xs (a + j) 0
      was_at j h =
          ap (λ (l : List ℕ). get_or l (a + j) 0) before.1
          ∙ get_d_paint _ s xs (a + j) (omega (arith, fits))
          ∙ cond-false _ _ _ (ap (λ (b : Bool). b && p (a + j)) (le-ltb (a + j) a (omega arith)))

      new : (j : ℕ) → a + j < e → get_or all (a + j) 0 ≡ cond (ltb (a + j) e && p (a + j)) (s (a + j)) (get_or xs (a + j) 0)
      new j h =
          part_in was ys a e ordered room long j (omega arith)
          ∙ ap (λ (l : List ℕ). get_or l j 0) is
          ∙ get_d_paint t u _ j (omega (arith, part_long))
          ∙ ap (λ (v : ℕ). cond (t j) (u j) v) (get_or-take (e - a) (drop a was) j 0 (omega arith) ∙ get_or-drop a was j 0 ∙ was_at j h)
          ∙ cond_ext (t j) (p (a + j)) (u j) (s (a + j)) _ (sym (same j h)) (from j h)
          ∙ sym (ap (λ (b : Bool). cond (b && p (a + j)) (s (a + j)) (get_or xs (a + j) 0)) (lt-ltb (a + j) e h))

-- the first n places, each of which was written
pub below-every : (s : ℕ → ℕ) (xs : List ℕ) {ys : List ℕ} (n : ℕ) → ys ≡ paint (λ k. ltb k n) s xs → Below every s xs ys n
below-every s xs n is = (ap length is ∙ length-paint _ s xs, is ∙ paint_ext _ _ s s xs (λ k h. sym (and-true (ltb k n))) (λ k h e. refl))

-- one store: the next odd place is painted
pub odd_next : (s : ℕ → ℕ) (xs : List ℕ) {was : List ℕ} {b : ℕ} (i : ℕ) → Below odd s xs was (2 * i) → 2 * i + 1 < length xs → b ≡ s (2 * i + 1)
    → Below odd s xs (set was (2 * i + 1) b) (2 * (i + 1))
odd_next s xs {was} {b} i before room new = (
  simp length-set before.0,
  rw before.1
      (paint-set _ _ s xs (2 * i + 1) b room new (both _ _ (lt-ltb (2 * i + 1) (2 * (i + 1)) (omega arith)) (is_odd (2 * i + 1) (omega arith)))
      (λ k ne. same_test (ltb k (2 * i) && odd k) (ltb k (2 * (i + 1)) && odd k)
      (λ p. both _ _ (lt-ltb k (2 * (i + 1)) (omega (arith, ltb-true k (2 * i) (both_left _ _ p)))) (both_right (ltb k (2 * i)) _ p))
      (λ p. let o = both_right (ltb k (2 * (i + 1))) _ p in
      both _ _ (lt-ltb k (2 * i) (before_it k ne (ltb-true k (2 * (i + 1)) (both_left _ _ p)) (odd-true k o))) o))),
)
  where
    before_it : (k : ℕ) → (k ≡ 2 * i + 1 → ⊥) → k < 2 * (i + 1) → k % 2 ≡ 1 → k < 2 * i
    before_it k ne lt o = ⊎_elim (λ l. l) (λ g. absurd (ne (omega arith))) (split k (2 * i))

-- a word of two places: the even one is stored as it was, the odd one is painted
pub odds_next : (s : ℕ → ℕ) (xs : List ℕ) {was ys : List ℕ} {a b : ℕ} (i : ℕ) → Below odd s xs was (2 * i) → 2 * i + 1 < length xs
    → ys ≡ set (set was (2 * i) a) (2 * i + 1) b → a ≡ get_or was (2 * i) 0 → b ≡ s (2 * i + 1)
    → Below odd s xs ys (2 * (i + 1))
odds_next s xs {was} {ys} {a} {b} i before room is kept new =
    let alone : ys ≡ set was (2 * i + 1) b = is ∙ rw (kept, set-get_or) refl in
    subst (λ (l : List ℕ). Below odd s xs l (2 * (i + 1))) (sym alone) (odd_next s xs i before room new)
