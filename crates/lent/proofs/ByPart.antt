-- Loops over a row that write a part of it each turn: the places below the loop's hold what is to be written, the others are as they were.
-- Assumes nothing.
use Prim.Native.Nat.{ℕ, ◌+◌, ◌*◌, ◌-◌, ◌<◌, ◌≤◌}
use native.Mathlib.Omega.{arith}
use mathlib.Core.Path.{◌≡◌, refl, sym, ap, ◌∙◌}
use mathlib.Core.Bool.{Bool, true, false, cond, ◌||◌}
use mathlib.Core.Logic.{⊎_elim}
use mathlib.Core.List.{List, ◌++◌}
use lib.Dec.{ltb}
use lib.ListN.{length, get_or, set, take, drop, length-drop}
use lib.Seq.{length-take-le}
use borrow.Author.Tests.{lt-ltb, le-ltb, ltb-true}
use Rattle.lent.specs.Paint.{paint, every, within}
use Rattle.lent.proofs.Bools.{split, same_test, never_true, either, or_left, or_right, cond-true, cond-false}
use Rattle.lent.proofs.Paint.{length-paint, get_d_paint, paint_none, paint-set, paint_is, paint_ext, paint-paint}
use Rattle.lent.proofs.Parts.{part_length, part_before, part_in, part_after}
use Rattle.lent.proofs.SoFar.{SoFar, so_far_more}
use Rattle.lent.proofs.Taken.{within_facts, within_holds}

-- ---- the n places from a on, one after the other

module _ (s : ℕ → ℕ) (xs : List ℕ) (a : ℕ) where
  pub within_none : xs ≡ paint (within a (a + 0)) s xs
  within_none = paint_none _ s xs (λ k h. never_true _ (λ e. omega (arith, within_facts a (a + 0) k e)))

  pub within_next : (i v : ℕ) → a + i < length xs → v ≡ s (a + i) → set (paint (within a (a + i)) s xs) (a + i) v ≡ paint (within a (a + (i + 1))) s xs
  within_next i v h e =
      paint-set (within a (a + i)) (within a (a + (i + 1))) s xs (a + i) v h e (within_holds a (a + (i + 1)) (a + i) (omega arith) (omega arith))
      (λ k ne. same_test (within a (a + i) k) (within a (a + (i + 1)) k)
      (λ t. let f = within_facts a (a + i) k t in within_holds a (a + (i + 1)) k f.0 (omega (arith, f.1)))
      (λ t. let f = within_facts a (a + (i + 1)) k t in
      within_holds a (a + i) k f.0 (⊎_elim (λ lt. lt) (λ ge. absurd (ne (omega (arith, f.1)))) (split k (a + i)))))

pub part_long : (xs : List ℕ) (a e : ℕ) → a ≤ e → e ≤ length xs → length (take (e - a) (drop a xs)) ≡ e - a
part_long xs a e h fits = length-take-le (e - a) (drop a xs) (simp length-drop (omega arith))

-- a part was lent, written whole and came back: the buffer is painted there
pub part_within : (xs : List ℕ) (a e : ℕ) (u : ℕ → ℕ) {ys : List ℕ} → a ≤ e → e ≤ length xs → ys ≡ paint every u (take (e - a) (drop a xs))
    → take a xs ++ (ys ++ drop (e - a) (drop a xs)) ≡ paint (within a e) (λ k. u (k - a)) xs
part_within xs a e u {ys} ordered fits is =
    paint_is _ _ xs all (part_length xs ys a e ordered fits long)
    (λ k h. ⊎_elim
    (λ lt. part_before xs ys a e ordered fits long k lt ∙ out k (λ t. omega (arith, within_facts a e k t)))
    (λ ge. ⊎_elim (λ lt. here k ge lt) (λ ge'. part_after xs ys a e ordered fits long k ge' ∙ out k (λ t. omega (arith, within_facts a e k t))) (split k e))
    (split k a))
  where
    all : List ℕ
    all = take a xs ++ (ys ++ drop (e - a) (drop a xs))

    long : length ys ≡ e - a
    long = ap length is ∙ length-paint _ _ _ ∙ part_long xs a e ordered fits

    out : (k : ℕ) → (within a e k ≡ true → ⊥) → get_or xs k 0 ≡ cond (within a e k) (u (k - a)) (get_or xs k 0)
    out k never = sym (cond-false (within a e k) _ _ (never_true _ never))

    here : (k : ℕ) → a ≤ k → k < e → get_or all k 0 ≡ cond (within a e k) (u (k - a)) (get_or xs k 0)
    here k ge lt =
        let k-is : k ≡ a + (k - a) = omega arith in
        ap (λ (m : ℕ). get_or all m 0) k-is
        ∙ part_in xs ys a e ordered fits long (k - a) (omega arith)
        ∙ ap (λ (l : List ℕ). get_or l (k - a) 0) is
        ∙ get_d_paint every u _ (k - a) (omega (arith, part_long xs a e ordered fits))
        ∙ sym (cond-true (within a e k) _ _ (within_holds a e k ge lt))

-- ---- what is written so far

-- the first n places, and those from a on, which lie in them or next to them
pub below_or_over : (n a e k : ℕ) → a ≤ n → n ≤ e → (ltb k n || within a e k) ≡ ltb k e
below_or_over n a e k near ordered =
    same_test (ltb k n || within a e k) (ltb k e)
    (λ t. lt-ltb k e (⊎_elim (λ l. omega (arith, ltb-true k n l)) (λ w. (within_facts a e k w).1) (either (ltb k n) (within a e k) t)))
    (λ t. let lt = ltb-true k e t in
    ⊎_elim (λ l. or_left (ltb k n) (within a e k) (lt-ltb k n l)) (λ g. or_right (ltb k n) (within a e k) (within_holds a e k (omega arith) lt)) (split k n))

pub below-or-within : (a e k : ℕ) → a ≤ e → (ltb k a || within a e k) ≡ ltb k e
below-or-within a e k ordered = below_or_over a a e k (omega arith) ordered

module _ (s : ℕ → ℕ) (xs : List ℕ) where
  -- the places that are still to come are as they were
  pub so_far_past : {ys : List ℕ} (i k : ℕ) → SoFar s xs ys i → i ≤ k → k < length xs → get_or ys k 0 ≡ get_or xs k 0
  so_far_past i k f ge h = ap (λ (l : List ℕ). get_or l k 0) f.1 ∙ get_d_paint _ s xs k h ∙ cond-false (ltb k i) _ _ (le-ltb k i ge)

  -- two places more
  pub so_far_two : {ys is : List ℕ} {v w : ℕ} (i : ℕ) → SoFar s xs ys (2 * i) → 2 * i + 2 ≤ length xs → v ≡ s (2 * i) → w ≡ s (2 * i + 1)
      → is ≡ set (set ys (2 * i) v) (2 * i + 1) w
      → SoFar s xs is (2 * (i + 1))
  so_far_two i f h e e' back =
      let more : 2 * i + 1 + 1 ≡ 2 * (i + 1) = omega arith in
      rw (back, ← more) (so_far_more s xs (2 * i + 1) (so_far_more s xs (2 * i) f (omega arith) e) (omega arith) e')

  -- the places from a to below e more, of which some may be written already
  pub so_far_over : {was is : List ℕ} (n a e : ℕ) (u : ℕ → ℕ) → a ≤ n → n ≤ e → SoFar s xs was n → is ≡ paint (within a e) u was
      → ((k : ℕ) → a ≤ k → k < e → u k ≡ s k)
      → SoFar s xs is e
  so_far_over n a e u near ordered f back from = (
    ap length back ∙ length-paint _ _ _ ∙ f.0,
    back ∙ ap (paint (within a e) u) f.1 ∙ paint-paint (λ k. ltb k n) (within a e) s u xs ∙ paint_ext _ (λ k. ltb k e) _ s xs (λ k h. below_or_over n a e k near ordered) (λ k h t. source k),
  )
    where
      source : (k : ℕ) → cond (within a e k) (u k) (s k) ≡ s k
      source k = by (within a e k) (λ t. let w = within_facts a e k t in from k w.0 w.1)
        where
          by : (b : Bool) → (b ≡ true → u k ≡ s k) → cond b (u k) (s k) ≡ s k
          by true g = g refl
          by false g = refl

  pub so_far_within : {was is : List ℕ} (a e : ℕ) (u : ℕ → ℕ) → a ≤ e → SoFar s xs was a → is ≡ paint (within a e) u was
      → ((k : ℕ) → a ≤ k → k < e → u k ≡ s k)
      → SoFar s xs is e
  so_far_within a e u ordered f back from = so_far_over a a e u (omega arith) ordered f back from

  -- the same of a part that was lent, written whole and came back
  pub so_far_part_over : {was ys : List ℕ} (n a e : ℕ) (u : ℕ → ℕ) → a ≤ n → n ≤ e → e ≤ length xs → SoFar s xs was n
      → ys ≡ paint every u (take (e - a) (drop a was))
      → ((j : ℕ) → a + j < e → u j ≡ s (a + j))
      → SoFar s xs (take a was ++ (ys ++ drop (e - a) (drop a was))) e
  so_far_part_over {was} n a e u near ordered fits f is from =
      so_far_over n a e (λ k. u (k - a)) near ordered f (part_within was a e u (omega arith) (omega (arith, f.0)) is)
      (λ k ge lt. let k-is : a + (k - a) ≡ k = omega arith in from (k - a) (omega arith) ∙ ap s k-is)

  pub so_far_part : {was ys : List ℕ} (a e : ℕ) (u : ℕ → ℕ) → a ≤ e → e ≤ length xs → SoFar s xs was a
      → ys ≡ paint every u (take (e - a) (drop a was))
      → ((j : ℕ) → a + j < e → u j ≡ s (a + j))
      → SoFar s xs (take a was ++ (ys ++ drop (e - a) (drop a was))) e
  so_far_part a e u ordered fits f is from = so_far_part_over a a e u (omega arith) ordered fits f is from
