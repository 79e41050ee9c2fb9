-- The laws of every second place and of fours, and of what a part of a row reads from its sources. Assumes nothing.
use Prim.Native.Nat.{ℕ, ◌+◌, ◌*◌, ◌/◌, ◌%◌, ◌<◌, ◌≤◌}
use native.Mathlib.Omega.{arith}
use mathlib.Core.Path.{◌≡◌, sym, ap, ◌∙◌}
use mathlib.Core.Bool.{Bool, true, false, cond}
use mathlib.Core.Logic.{◌⊎◌, inl, inr, ⊎_elim}
use mathlib.Core.List.{List}
use lib.Dec.{ltb, eqb}
use lib.ListN.{length, get_or, set, take, drop}
use lib.Seq.{get_or-take, get_or-drop}
use borrow.Author.Tests.{lt-ltb, eq-eqb, eqb-true}
use Rattle.lent.specs.Paint.{paint}
use Rattle.lent.proofs.Bools.{split, never_true, cond-true, cond-false}
use Rattle.lent.proofs.Paint.{length-paint, get_d_paint, paint_is}
use Rattle.lent.proofs.SoFar.{SoFar, so_far_more}
use Rattle.columns.specs.Turns.{odd, even, woven}

pub is_odd : (k : ℕ) → k % 2 ≡ 1 → odd k ≡ true
unfolding odd
is_odd k e = eq-eqb (k % 2) 1 e

pub not-odd : (k : ℕ) → k % 2 ≡ 0 → odd k ≡ false
unfolding odd
not-odd k e = never_true (eqb (k % 2) 1) (λ p. omega (arith, eqb-true (k % 2) 1 p))

pub is_even : (k : ℕ) → k % 2 ≡ 0 → even k ≡ true
unfolding even
is_even k e = eq-eqb (k % 2) 0 e

pub not-even : (k : ℕ) → k % 2 ≡ 1 → even k ≡ false
unfolding even
not-even k e = never_true (eqb (k % 2) 0) (λ p. omega (arith, eqb-true (k % 2) 0 p))

pub even-true : (k : ℕ) → even k ≡ true → k % 2 ≡ 0
unfolding even
even-true k e = eqb-true (k % 2) 0 e

pub odd-true : (k : ℕ) → odd k ≡ true → k % 2 ≡ 1
unfolding odd
odd-true k e = eqb-true (k % 2) 1 e

pub woven-odd : (e o : List ℕ) (k : ℕ) → k % 2 ≡ 1 → woven e o k ≡ get_or o (k / 2) 0
unfolding woven
woven-odd e o k h = ap (λ (b : Bool). cond b (get_or o (k / 2) 0) (get_or e (k / 2) 0)) (is_odd k h)

pub woven-even : (e o : List ℕ) (k : ℕ) → k % 2 ≡ 0 → woven e o k ≡ get_or e (k / 2) 0
unfolding woven
woven-even e o k h = ap (λ (b : Bool). cond b (get_or o (k / 2) 0) (get_or e (k / 2) 0)) (not-odd k h)

pub parity : (k : ℕ) → (k % 2 ≡ 1) ⊎ (k % 2 ≡ 0)
parity k = ⊎_elim (λ lt. inr (omega arith)) (λ ge. inl (omega arith)) (split (k % 2) 1)

-- a row whose odd places are kept and whose even ones are new
module _ (dst from z : List ℕ) (room : length dst ≤ 2 * length z) (whole : length dst % 2 ≡ 0) where
  kept_at : (k : ℕ) → k % 2 ≡ 1 → k < length dst → get_or (paint (λ j. ltb j (length dst / 2)) (λ j. get_or dst (2 * j + 1) 0) z) (k / 2) 0 ≡ get_or dst k 0
  kept_at k e h =
      get_d_paint _ _ z (k / 2) (omega arith)
      ∙ cond-true (ltb (k / 2) (length dst / 2)) _ _ (lt-ltb (k / 2) (length dst / 2) (omega arith))
      ∙ ap (λ (j : ℕ). get_or dst j 0) (omega arith)

  pub evens_new : (new : ℕ → ℕ) → ((j : ℕ) → j < length dst / 2 → get_or from j 0 ≡ new j) → paint (λ k. ltb k (2 * (length dst / 2))) (woven from (paint (λ j. ltb j (length dst / 2)) (λ j. get_or dst (2 * j + 1) 0) z)) dst ≡ paint even (λ k. new (k / 2)) dst
  evens_new new is =
      paint_is even _ dst _ (length-paint _ _ dst)
      (λ k h. get_d_paint _ _ dst k h ∙ cond-true (ltb k (2 * (length dst / 2))) _ _ (lt-ltb k (2 * (length dst / 2)) (omega arith))
      ∙ ⊎_elim
      (λ o. woven-odd from _ k o ∙ kept_at k o h ∙ sym (cond-false (even k) _ _ (not-even k o)))
      (λ e. woven-even from _ k e ∙ is (k / 2) (omega arith) ∙ sym (cond-true (even k) _ _ (is_even k e)))
      (parity k))

-- u and v by turns, read from the lead on
pub turns_at : (u v z : List ℕ) (m n lead j : ℕ) → 2 * m ≤ length z → lead + j < 2 * m → j < n → get_or (take n (drop lead (paint (λ k. ltb k (2 * m)) (woven u v) z))) j 0 ≡ woven u v (lead + j)
turns_at u v z m n lead j room h hn =
    get_or-take n (drop lead _) j 0 hn
    ∙ get_or-drop lead _ j 0
    ∙ get_d_paint _ _ z (lead + j) (omega arith)
    ∙ cond-true (ltb (lead + j) (2 * m)) _ _ (lt-ltb (lead + j) (2 * m) h)

-- a row by fours: u, odd, v, odd
abbrev pub by_fours : List ℕ → List ℕ → List ℕ → ℕ → ℕ
by_fours odds u v k = cond (odd k) (get_or odds (k / 2) 0) (woven u v (k / 2))

module _ (odds u v : List ℕ) where
  at_odd : (k j : ℕ) → k % 2 ≡ 1 → k / 2 ≡ j → get_or odds j 0 ≡ by_fours odds u v k
  at_odd k j o e = ap (λ (m : ℕ). get_or odds m 0) (sym e) ∙ sym (cond-true (odd k) _ _ (is_odd k o))

  at_even : (k j : ℕ) → k % 2 ≡ 0 → k / 2 ≡ j → woven u v j ≡ by_fours odds u v k
  at_even k j z e = ap (woven u v) (sym e) ∙ sym (cond-false (odd k) _ _ (not-odd k z))

  -- a word of four places more
  pub fours_next : (xs : List ℕ) {was ys : List ℕ} {a b c d : ℕ} (i : ℕ) → SoFar (by_fours odds u v) xs was (4 * i) → 4 * i + 3 < length xs
      → ys ≡ set (set (set (set was (4 * i) a) (4 * i + 1) b) (4 * i + 2) c) (4 * i + 3) d
      → a ≡ get_or u i 0 → b ≡ get_or odds (2 * i) 0 → c ≡ get_or v i 0 → d ≡ get_or odds (2 * i + 1) 0
      → SoFar (by_fours odds u v) xs ys (4 * (i + 1))
  fours_next xs {was} {ys} {a} {b} {c} {d} i before room is e₀ e₁ e₂ e₃ =
      let half : i ≡ 2 * i / 2 = omega arith in
      let half' : i ≡ (2 * i + 1) / 2 = omega arith in
      let two : 4 * i + 1 + 1 ≡ 4 * i + 2 = omega arith in
      let three : 4 * i + 2 + 1 ≡ 4 * i + 3 = omega arith in
      let four : 4 * i + 3 + 1 ≡ 4 * (i + 1) = omega arith in
      let f₁ = so_far_more _ xs (4 * i) before (omega arith) (e₀ ∙ ap (λ (m : ℕ). get_or u m 0) half ∙ sym (woven-even u v (2 * i) (omega arith)) ∙ at_even (4 * i) (2 * i) (omega arith) (omega arith)) in
      let f₂ = so_far_more _ xs (4 * i + 1) f₁ (omega arith) (e₁ ∙ at_odd (4 * i + 1) (2 * i) (omega arith) (omega arith)) in
      let f₃ = so_far_more _ xs (4 * i + 2) (rw two at f₂) (omega arith) (e₂ ∙ ap (λ (m : ℕ). get_or v m 0) half' ∙ sym (woven-odd u v (2 * i + 1) (omega arith)) ∙ at_even (4 * i + 2) (2 * i + 1) (omega arith) (omega arith)) in
      let f₄ = so_far_more _ xs (4 * i + 3) (rw three at f₃) (omega arith) (e₃ ∙ at_odd (4 * i + 3) (2 * i + 1) (omega arith) (omega arith)) in
      (ap length is ∙ f₄.0, is ∙ (rw four at f₄.1))
