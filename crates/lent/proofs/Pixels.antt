-- The laws of rows of pixels: one store more is one pixel more (`done_step`).
-- Assumes nothing.
use Prim.Native.Nat.{ℕ, suc, ◌+◌, ◌*◌, ◌/◌, ◌%◌, ◌<◌, ◌≤◌}
use native.Mathlib.Nat.{add-zero}
use native.Mathlib.Numerals.{add-one}
use native.Mathlib.Omega.{arith}
use mathlib.Core.Path.{◌≡◌, refl, ap, ◌∙◌}
use mathlib.Core.List.{List, [], ◌∷◌}
use lib.Dec.{ltb}
use lib.ListN.{length, get_or}
use lib.Seq.{sets}
use borrow.Author.Tests.{lt-ltb, le-ltb}
use Rattle.lent.specs.Paint.{paint, every}
use Rattle.lent.specs.Pixels.{bytes, done}
use Rattle.lent.proofs.Paint.{paint_none, paint_ext, paint_next}

pub done_none : (f : ℕ → List ℕ) (xs : List ℕ) → xs ≡ done f 0 xs
done_none f xs = paint_none _ _ xs (λ k h. le-ltb k (4 * 0) (omega arith))

byte_at : (f : ℕ → List ℕ) (i j : ℕ) → j < 4 → get_or (f i) j 0 ≡ bytes f (4 * i + j)
unfolding bytes
byte_at f i j h =
    let q : i ≡ (4 * i + j) / 4 = omega arith in
    let r : j ≡ (4 * i + j) % 4 = omega arith in
    λ t. get_or (f (q t)) (r t) 0

-- a list stored behind the first k bytes of a row, where it has the bytes that follow
abbrev upto : (ℕ → List ℕ) → List ℕ → ℕ → List ℕ
upto f xs n = paint (λ k. ltb k n) (bytes f) xs

sets_upto : (f : ℕ → List ℕ) (xs vs : List ℕ) (k n : ℕ) → k + length vs ≡ n → n ≤ length xs → ((j : ℕ) → j < length vs → get_or vs j 0 ≡ bytes f (k + j)) → sets (upto f xs k) k vs ≡ upto f xs n
sets_upto f xs [] k n e room is = let h : k ≡ n = omega arith in ap (upto f xs) h
sets_upto f xs (v ∷ vs) k n e room is =
    let here = is 0 (omega arith) ∙ ap (bytes f) (add-zero k) in
    let on : (j : ℕ) → k + suc j ≡ suc k + j = λ j. omega arith in
    ap (λ (l : List ℕ). sets l (suc k) vs) (paint_next (bytes f) xs k v (omega arith) here ∙ ap (upto f xs) (add-one k))
    ∙ sets_upto f xs vs (suc k) n (omega arith) room (λ j h. is (suc j) (omega arith) ∙ ap (bytes f) (on j))

-- the same number of pixels
pub done_at : (f : ℕ → List ℕ) (xs : List ℕ) {is : List ℕ} (m n : ℕ) → is ≡ done f m xs → m ≡ n → is ≡ done f n xs
done_at f xs m n h e = h ∙ ap (λ (k : ℕ). done f k xs) e

-- all pixels
pub done_all : (f : ℕ → List ℕ) (xs : List ℕ) (n : ℕ) → length xs ≤ 4 * n → done f n xs ≡ paint every (bytes f) xs
done_all f xs n h = paint_ext _ every _ _ xs (λ k hk. lt-ltb k (4 * n) (omega arith)) (λ k hk e. refl)

-- a store of pixel i, where the first i are done
pub done_step : (f : ℕ → List ℕ) (xs : List ℕ) {was is p : List ℕ} (i m : ℕ) → was ≡ done f i xs → is ≡ sets was (4 * i) p → p ≡ f i → length p ≡ 4 → 4 * i + 4 ≤ length xs → m ≡ i + 1 → is ≡ done f m xs
done_step f xs {was} {is} {p} i m before store pixel four room next =
    store ∙ ap (λ (l : List ℕ). sets l (4 * i) p) before
    ∙ sets_upto f xs p (4 * i) (4 * m) (omega arith) (omega arith) (λ j h. ap (λ (q : List ℕ). get_or q j 0) pixel ∙ byte_at f i j (omega arith))
