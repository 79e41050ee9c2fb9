-- The laws of `spread_at`: a part that was lent, two coats that lie apart, a coat that goes on, one store, and both rows at once.
-- Assumes nothing.
use Prim.Native.Nat.{ℕ, ◌+◌, ◌*◌, ◌-◌, ◌/◌, ◌<◌, ◌≤◌}
use native.Mathlib.Omega.{arith}
use mathlib.Core.Path.{◌≡◌, refl, sym, ap, ◌∙◌}
use mathlib.Core.Bool.{Bool, true, false, cond, ◌||◌, or_comm, false≢true}
use mathlib.Core.Logic.{⊎_elim}
use mathlib.Core.List.{List, ◌++◌}
use lib.Dec.{ltb}
use lib.ListN.{length, get_or, set, take, drop, length-set}
use lib.Seq.{get_or-take, get_or-drop}
use Rattle.lent.specs.Paint.{paint, within}
use Rattle.lent.specs.Spread.{spread_at}
use Rattle.lent.proofs.Bools.{split, same_test, never_true, either, or_left, or_right}
use Rattle.lent.proofs.Paint.{length-paint, paint_none, paint-set, paint_ext, paint-paint}
use Rattle.lent.proofs.Taken.{within_facts, within_holds}
use Rattle.lent.proofs.ByPart.{within_none, part_long, part_within}
use Rattle.lent.proofs.Copies.{by_array}

-- the n places from a on were lent and filled from an array that holds the pairs
pub spread_lent : (from t xs : List ℕ) (a n : ℕ) {ys : List ℕ} → a + n ≤ length xs → n ≤ length t
    → ys ≡ paint (λ k. ltb k n) (λ k. get_or (paint (λ k. ltb k n) (λ k. get_or from (k / 2) 0) t) k 0) (take (a + n - a) (drop a xs))
    → take a xs ++ (ys ++ drop (a + n - a) (drop a xs)) ≡ spread_at a n from xs
spread_lent from t xs a n fits room is =
    part_within xs a (a + n) (λ k. get_or from (k / 2) 0) (omega arith) fits
    (is ∙ by_array _ t (λ k. get_or from (k / 2) 0) n (part_long xs a (a + n) (omega arith) fits ∙ omega arith) room)

-- two coats that have no place in common: either may be the first
paint_apart : (t₁ t₂ : ℕ → Bool) (s₁ s₂ : ℕ → ℕ) (xs : List ℕ) → ((k : ℕ) → t₁ k ≡ true → t₂ k ≡ true → ⊥)
    → paint t₂ s₂ (paint t₁ s₁ xs) ≡ paint t₁ s₁ (paint t₂ s₂ xs)
paint_apart t₁ t₂ s₁ s₂ xs apart =
    paint-paint t₁ t₂ s₁ s₂ xs
    ∙ paint_ext _ _ _ _ xs (λ k h. or_comm (t₁ k) (t₂ k)) (λ k h e. one (t₁ k) (t₂ k) (s₁ k) (s₂ k) (apart k) e)
    ∙ sym (paint-paint t₂ t₁ s₂ s₁ xs)
  where
    one : (a b : Bool) (x y : ℕ) → (a ≡ true → b ≡ true → ⊥) → (a || b) ≡ true → cond b y x ≡ cond a x y
    one true true x y f e = absurd (f refl refl)
    one true false x y f e = refl
    one false true x y f e = refl
    one false false x y f e = absurd (false≢true e)

-- one store is a coat of one place
set_spread : (from xs : List ℕ) (a i : ℕ) {v : ℕ} → a < length xs → v ≡ get_or from i 0 → set xs a v ≡ spread_at a 1 (take 1 (drop i from)) xs
set_spread from xs a i {v} h e =
    ap (λ (l : List ℕ). set l a v) (paint_none (λ k. false) s xs (λ k h. refl))
    ∙ paint-set (λ k. false) (within a (a + 1)) s xs a v h (e ∙ sym first) (within_holds a (a + 1) a (omega arith) (omega arith))
    (λ k ne. sym (never_true _ (λ t. ne (omega (arith, within_facts a (a + 1) k t)))))
  where
    s : ℕ → ℕ
    s k = get_or (take 1 (drop i from)) ((k - a) / 2) 0

    first : s a ≡ get_or from i 0
    first =
        let is : i + (a - a) / 2 ≡ i = omega arith in
        get_or-take 1 (drop i from) ((a - a) / 2) 0 (omega arith) ∙ get_or-drop i from ((a - a) / 2) 0 ∙ ap (λ (j : ℕ). get_or from j 0) is

-- the front of `from` is enough for n places
spread_front : (from xs : List ℕ) (a n l : ℕ) → n ≤ 2 * l → spread_at a n (take l from) xs ≡ spread_at a n from xs
spread_front from xs a n l enough =
    paint_ext _ _ _ _ xs (λ k h. refl) (λ k h t. get_or-take l from ((k - a) / 2) 0 (omega (arith, within_facts a (a + n) k t)))

-- the first n places, and then p more, which lie in them or next to them: e places
spread_more : (from xs : List ℕ) (a n i p l e : ℕ) → 2 * i ≤ n → n ≤ e → e ≡ 2 * i + p → p ≤ 2 * l
    → spread_at (a + 2 * i) p (take l (drop i from)) (spread_at a n from xs) ≡ spread_at a e from xs
spread_more from xs a n i p l e near ordered ends enough =
    paint-paint (within a (a + n)) (within (a + 2 * i) (a + 2 * i + p)) _ _ xs
    ∙ paint_ext _ (within a (a + e)) _ _ xs (λ k h. taken k) (λ k h t. source k)
  where
    taken : (k : ℕ) → (within a (a + n) k || within (a + 2 * i) (a + 2 * i + p) k) ≡ within a (a + e) k
    taken k =
        same_test (within a (a + n) k || within (a + 2 * i) (a + 2 * i + p) k) (within a (a + e) k)
        (λ t. ⊎_elim
        (λ w. let f = within_facts a (a + n) k w in within_holds a (a + e) k f.0 (omega (arith, f.1)))
        (λ w. let f = within_facts (a + 2 * i) (a + 2 * i + p) k w in within_holds a (a + e) k (omega (arith, f.0)) (omega (arith, f.1)))
        (either (within a (a + n) k) _ t))
        (λ t. let f = within_facts a (a + e) k t in
        ⊎_elim
        (λ lt. or_left (within a (a + n) k) _ (within_holds a (a + n) k f.0 lt))
        (λ ge. or_right (within a (a + n) k) _ (within_holds (a + 2 * i) (a + 2 * i + p) k (omega arith) (omega (arith, f.1))))
        (split k (a + n)))

    source : (k : ℕ) → cond (within (a + 2 * i) (a + 2 * i + p) k) (get_or (take l (drop i from)) ((k - (a + 2 * i)) / 2) 0) (get_or from ((k - a) / 2) 0) ≡ get_or from ((k - a) / 2) 0
    source k = by (within (a + 2 * i) (a + 2 * i + p) k) (λ t. here (within_facts (a + 2 * i) (a + 2 * i + p) k t))
      where
        here : (a + 2 * i ≤ k) × (k < a + 2 * i + p) → get_or (take l (drop i from)) ((k - (a + 2 * i)) / 2) 0 ≡ get_or from ((k - a) / 2) 0
        here f =
            let is : i + (k - (a + 2 * i)) / 2 ≡ (k - a) / 2 = omega arith in
            get_or-take l (drop i from) ((k - (a + 2 * i)) / 2) 0 (omega arith) ∙ get_or-drop i from ((k - (a + 2 * i)) / 2) 0 ∙ ap (λ (j : ℕ). get_or from j 0) is

        by : (t : Bool) {x y : ℕ} → (t ≡ true → x ≡ y) → cond t x y ≡ y
        by true g = g refl
        by false g = refl

-- ---- two rows that are written alike

module _ (from xs : List ℕ) (a b : ℕ) where
  -- ys is xs with the n places from a on, and those from b on
  abbrev pub Both : List ℕ → ℕ → Type 0
  Both ys n = (length ys ≡ length xs) × (ys ≡ spread_at b n from (spread_at a n from xs))

  pub both_none : Both xs 0
  both_none = (refl, within_none _ xs a ∙ within_none _ _ b)

  -- e places of each at once, from the front of `from`
  pub both_at_once : {is : List ℕ} (n l e : ℕ) → e ≡ n → n ≤ 2 * l → is ≡ spread_at b n (take l from) (spread_at a n (take l from) xs)
      → is ≡ spread_at b e from (spread_at a e from xs)
  both_at_once n l e ends enough back =
      rw ends (back ∙ spread_front from (spread_at a n (take l from) xs) b n l enough ∙ ap (spread_at b n from) (spread_front from xs a n l enough))

  -- p places more of each, of which some may be written already; the first row ends before the second starts
  pub both_more : {was is : List ℕ} (n i p l e : ℕ) → 2 * i ≤ n → n ≤ e → e ≡ 2 * i + p → p ≤ 2 * l → a + e ≤ b → Both was n
      → is ≡ spread_at (b + 2 * i) p (take l (drop i from)) (spread_at (a + 2 * i) p (take l (drop i from)) was)
      → Both is e
  both_more n i p l e near ordered ends enough apart f back =
      let part = take l (drop i from) in
      let more = back
      ∙ ap (λ (x : List ℕ). spread_at (b + 2 * i) p part (spread_at (a + 2 * i) p part x)) f.1
      ∙ ap (spread_at (b + 2 * i) p part)
      (paint_apart (within b (b + n)) (within (a + 2 * i) (a + 2 * i + p)) _ _ (spread_at a n from xs)
      (λ k t t'. omega (arith, within_facts b (b + n) k t, within_facts (a + 2 * i) (a + 2 * i + p) k t'))
      ∙ ap (spread_at b n from) (spread_more from xs a n i p l e near ordered ends enough))
      ∙ spread_more from (spread_at a e from xs) b n i p l e near ordered ends enough in
      (ap length more ∙ length-paint _ _ _ ∙ length-paint _ _ _, more)

  -- an odd last place
  pub both_last : {was : List ℕ} {v : ℕ} (i e : ℕ) → e ≡ 2 * i + 1 → a + e ≤ b → b + e ≤ length xs → v ≡ get_or from i 0 → Both was (2 * i)
      → Both (set (set was (a + 2 * i) v) (b + 2 * i) v) e
  both_last {was} {v} i e ends apart fits is f =
      both_more (2 * i) i 1 1 e (omega arith) (omega arith) ends (omega arith) apart f
      (set_spread from (set was (a + 2 * i) v) (b + 2 * i) i (simp length-set (omega arith)) is ∙ ap (spread_at (b + 2 * i) 1 (take 1 (drop i from))) (set_spread from was (a + 2 * i) i (omega arith) is))
