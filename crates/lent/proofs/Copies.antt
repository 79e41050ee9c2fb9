-- Copies: through a local array, and part by part from the front.
-- Assumes nothing.
use Prim.Native.Nat.{ℕ, ◌+◌, ◌-◌, ◌≤◌}
use native.Mathlib.Omega.{arith}
use mathlib.Core.Path.{◌≡◌, sym, ap, ◌∙◌}
use mathlib.Core.List.{List, ◌++◌, append_assoc}
use lib.Dec.{ltb}
use lib.ListN.{length, get_or, take, drop, length-append, length-drop}
use lib.Seq.{take_at, take-add, take-take, take_all, length-take-le}
use borrow.Author.Tests.{lt-ltb}
use Rattle.lent.specs.Paint.{paint, every}
use Rattle.lent.proofs.Bools.{cond-true}
use Rattle.lent.proofs.Paint.{get_d_paint, paint_ext, paint_over}
use Rattle.lent.proofs.Parts.{part_length}

-- the first n places are written in t, and copied from there into xs: where n is all of xs, it is written as t was
pub by_array : (xs t : List ℕ) (f : ℕ → ℕ) (n : ℕ) → length xs ≡ n → n ≤ length t → paint (λ k. ltb k n) (λ k. get_or (paint (λ k. ltb k n) f t) k 0) xs ≡ paint every f xs
by_array xs t f n ex room =
    paint_ext _ every _ f xs (λ k h. lt-ltb k n (omega arith))
    (λ k h e. get_d_paint (λ k. ltb k n) f t k (omega arith) ∙ cond-true (ltb k n) (f k) (get_or t k 0) (lt-ltb k n (omega arith)))

-- the first n bytes of ys, put into t, and those of t into xs: where n is all, xs becomes ys
pub through : (xs ys t : List ℕ) (n : ℕ) → length xs ≡ n → length ys ≡ n → n ≤ length t → paint (λ k. ltb k n) (λ k. get_or (paint (λ k. ltb k n) (λ k. get_or ys k 0) t) k 0) xs ≡ ys
through xs ys t n ex ey room = by_array xs t (λ k. get_or ys k 0) n ex room ∙ sym (paint_over xs ys (ey ∙ sym ex))

-- ys is as long as xs, and its first n bytes are those of xs
abbrev pub Front : List ℕ → List ℕ → ℕ → Type 0
Front xs ys n = (length ys ≡ length xs) × (take n ys ≡ take n xs)

module _ (xs : List ℕ) where
  pub front_all : {ys : List ℕ} (n : ℕ) → Front xs ys n → length xs ≤ n → ys ≡ xs
  front_all {ys} n f end = sym (take_all n ys (omega arith)) ∙ f.1 ∙ take_all n xs end

  pub front_less : (ys : List ℕ) (n m : ℕ) → Front xs ys n → m ≤ n → Front xs ys m
  front_less ys n m f less = (f.0, sym (take-take m n ys less) ∙ ap (take m) f.1 ∙ take-take m n xs less)

  -- the part from a to below e, which starts in the front or where it ends, was lent and came back as that of xs
  pub front_more : (was : List ℕ) {ys : List ℕ} (n a e : ℕ) → Front xs was n → a ≤ n → a ≤ e → e ≤ length xs → ys ≡ take (e - a) (drop a xs)
      → Front xs (take a was ++ (ys ++ drop (e - a) (drop a was))) e
  front_more was {ys} n a e f near ordered fits is =
      let whole : a + (e - a) ≡ e = omega arith in (
        part_length was ys a e ordered (omega arith) long ∙ f.0,
        ap (take e) (sym (append_assoc (take a was) ys _))
            ∙ take_at (take a was ++ ys) _ e (simp length-append (omega (arith, long, length-take-le a was (omega arith))))
            ∙ (λ i. same i ++ is i)
            ∙ sym (take-add a (e - a) xs)
            ∙ ap (λ (k : ℕ). take k xs) whole,
      )
    where
      long : length ys ≡ e - a
      long = ap length is ∙ length-take-le (e - a) (drop a xs) (simp length-drop (omega (arith, fits)))

      same : take a was ≡ take a xs
      same = (front_less was n a f near).1
