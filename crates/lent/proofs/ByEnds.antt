-- A row written part by part, each by way of a local array: what every part becomes is found before any is written, so that a part may lie over the
-- one before it. A short row is written by its two ends.
-- Assumes nothing.
use Prim.Native.Nat.{ℕ, ◌+◌, ◌*◌, ◌-◌, ◌<◌, ◌≤◌}
use native.Mathlib.Omega.{arith}
use mathlib.Core.Path.{◌≡◌, refl, sym, ap, ◌∙◌}
use mathlib.Core.List.{List, ◌++◌}
use lib.Dec.{ltb}
use lib.ListN.{length, get_or, take, drop}
use lib.Seq.{get_or-take, get_or-drop}
use borrow.Author.Tests.{ltb-true}
use Rattle.lent.specs.Paint.{paint, every}
use Rattle.lent.proofs.Bools.{cond-true}
use Rattle.lent.proofs.Paint.{length-paint, get_d_paint, paint_ext, paint_over}
use Rattle.lent.proofs.Copies.{by_array}
use Rattle.lent.proofs.SoFar.{SoFar, so_far_all}
use Rattle.lent.proofs.ByPart.{part_long, so_far_part_over}

-- a place of a part is a place of the whole
pub part_place : (xs : List ℕ) (a e j : ℕ) → a + j < e → get_or (take (e - a) (drop a xs)) j 0 ≡ get_or xs (a + j) 0
part_place xs a e j h = get_or-take (e - a) (drop a xs) j 0 (omega arith) ∙ get_or-drop a xs j 0

-- the first n places, by way of an array
front_by_array : (xs t : List ℕ) (f : ℕ → ℕ) (n : ℕ) → n ≤ length t
    → paint (λ k. ltb k n) (λ k. get_or (paint (λ k. ltb k n) f t) k 0) xs ≡ paint (λ k. ltb k n) f xs
front_by_array xs t f n room =
    paint_ext _ _ _ f xs (λ k h. refl)
    (λ k h e. let lt = ltb-true k n e in get_d_paint (λ k. ltb k n) f t k (omega arith) ∙ cond-true (ltb k n) (f k) (get_or t k 0) e)

-- s is what each place of xs becomes, t what an array held before, `into` what it holds once a part went into it
module _ (s : ℕ → ℕ) (xs : List ℕ) where
  -- the first `size` places
  pub array_front : (t : List ℕ) {into ys : List ℕ} (size : ℕ) → size ≤ length t → into ≡ paint (λ k. ltb k size) s t
      → ys ≡ paint (λ k. ltb k size) (λ k. get_or into k 0) xs
      → SoFar s xs ys size
  array_front t size room is back = (ap length back ∙ length-paint _ _ _, back ∙ rw is (front_by_array xs t s size room))

  -- the part from a to below e, which starts in the first n places or where they end; u is what its own places become
  pub array_part : (t : List ℕ) (u : ℕ → ℕ) {was into ys : List ℕ} (n a e size : ℕ) → e - a ≡ size → a ≤ n → n ≤ e → e ≤ length xs → size ≤ length t
      → ((j : ℕ) → a + j < e → u j ≡ s (a + j))
      → SoFar s xs was n
      → into ≡ paint (λ k. ltb k size) u t
      → ys ≡ paint (λ k. ltb k size) (λ k. get_or into k 0) (take (e - a) (drop a was))
      → SoFar s xs (take a was ++ (ys ++ drop (e - a) (drop a was))) e
  array_part t u {was} n a e size is-size near ordered fits room same f is back =
      so_far_part_over s xs n a e u near ordered fits f
      (back ∙ rw is (by_array (take (e - a) (drop a was)) t u size (part_long was a e (omega arith) (omega (arith, f.0)) ∙ is-size) room)) same

  -- the first `size` places and the last, of at most twice as many: every place
  pub by_ends : (t t' : List ℕ) (u : ℕ → ℕ) {into into' ys zs : List ℕ} (n size : ℕ) → length xs ≡ n → size ≤ n → n ≤ 2 * size
      → size ≤ length t → size ≤ length t'
      → ((j : ℕ) → n - size + j < n → u j ≡ s (n - size + j))
      → into ≡ paint (λ k. ltb k size) s t
      → into' ≡ paint (λ k. ltb k size) u t'
      → ys ≡ paint (λ k. ltb k size) (λ k. get_or into k 0) xs
      → zs ≡ paint (λ k. ltb k size) (λ k. get_or into' k 0) (take (n - (n - size)) (drop (n - size) ys))
      → take (n - size) ys ++ (zs ++ drop (n - (n - size)) (drop (n - size) ys)) ≡ paint every s xs
  by_ends t t' u n size long least most room room' same is is' back back' =
      so_far_all s xs n
      (array_part t' u size (n - size) n size (omega arith) (omega arith) least (omega arith) room' same (array_front t size room is back) is' back')
      (omega arith)

-- a copy of ys by its ends
pub copied_by_ends : (xs ys t t' : List ℕ) {into into' mid back : List ℕ} (size : ℕ) → length xs ≡ length ys → size ≤ length ys → length ys ≤ 2 * size
    → size ≤ length t → size ≤ length t'
    → into ≡ paint (λ k. ltb k size) (λ k. get_or ys k 0) t
    → into' ≡ paint (λ k. ltb k size) (λ k. get_or (take (length ys - (length ys - size)) (drop (length ys - size) ys)) k 0) t'
    → mid ≡ paint (λ k. ltb k size) (λ k. get_or into k 0) xs
    → back ≡ paint (λ k. ltb k size) (λ k. get_or into' k 0) (take (length ys - (length ys - size)) (drop (length ys - size) mid))
    → take (length ys - size) mid ++ (back ++ drop (length ys - (length ys - size)) (drop (length ys - size) mid)) ≡ ys
copied_by_ends xs ys t t' size alike least most room room' is is' first last =
    by_ends (λ k. get_or ys k 0) xs t t' _ (length ys) size alike least most room room' (part_place ys (length ys - size) (length ys)) is is' first last
    ∙ sym (paint_over xs ys (sym alike))
