-- A row of an output is lent to a reader, whole or part by part, and comes back: what it holds are samples of the picture. `chunk_more` is one part more.
-- Assumes nothing.
use Prim.Native.Nat.{ℕ, ◌+◌, ◌*◌, ◌-◌, ◌/◌, ◌%◌, ◌<◌, ◌≤◌}
use native.Mathlib.Nat.{mul-add, mul-le-mul_left}
use native.Mathlib.Omega.{arith}
use mathlib.Core.Path.{◌≡◌, refl, sym, ap, subst, ◌∙◌}
use mathlib.Core.Bool.{Bool, cond}
use mathlib.Core.Logic.{⊎_elim}
use mathlib.Core.List.{List, ◌++◌}
use lib.Dec.{ltb}
use lib.ListN.{length, get_or, take, drop, length-drop}
use lib.Seq.{get_or-take, get_or-drop, length-take-le}
use borrow.Author.Tests.{lt-ltb, le-ltb}
use Rattle.lent.specs.Paint.{paint, painted, every, whole}
use Rattle.lent.specs.Samples.{sample}
use Rattle.lent.proofs.Bools.{split, cond-true, cond-false}
use Rattle.lent.proofs.Paint.{length-paint, get_d_paint, paint_is, paint_ext}
use Rattle.lent.proofs.SoFar.{SoFar, so_far_none, so_far_all}
use Rattle.lent.proofs.Painted.{painted_ext}
use Rattle.lent.proofs.Samples.{part_sample_lem}
use Rattle.lent.proofs.Parts.{part_length, part_before, part_in, part_after}
use Rattle.split_rows.specs.Pairs.{pair_of}
use Rattle.split_rows.specs.Seen.{seen}

-- the whole row `row` of a plane, as it is lent to be read
abbrev pub row_of : List ℕ → ℕ → ℕ → List ℕ
row_of plane stride row = take (row * stride + stride - row * stride) (drop (row * stride) plane)

module _ (plane : List ℕ) (stride row : ℕ) where
  pub row_sample : (j : ℕ) → j < stride → get_or (row_of plane stride row) j 0 ≡ sample plane stride row j
  unfolding sample
  row_sample j h = get_or-take (row * stride + stride - row * stride) (drop (row * stride) plane) j 0 (omega arith) ∙ get_or-drop (row * stride) plane j 0

  pub row_long : row * stride + stride ≤ length plane → length (row_of plane stride row) ≡ stride
  row_long fits = length-take-le (row * stride + stride - row * stride) (drop (row * stride) plane) (simp length-drop (omega arith)) ∙ omega arith

  -- the row was copied
  pub row_copied : (out : List ℕ) → 1 * length out ≡ stride → row * stride + stride ≤ length plane → row_of plane stride row ≡ paint every (sample plane stride row) out
  row_copied out exact fits = paint_is every (sample plane stride row) out (row_of plane stride row) (row_long fits ∙ omega arith) (λ k h. row_sample k (omega arith))

-- a plane by what it holds
pub same_plane : (w h : ℕ) (s s' : ℕ → ℕ → ℕ) (xs : List ℕ) → ((r c : ℕ) → s r c ≡ s' r c) → painted w h whole s xs ≡ painted w h whole s' xs
same_plane w h s s' xs same = painted_ext w h whole whole s s' xs (λ r c hr hc. refl) (λ r c hr hc e. same r c)

-- the bytes below a are written, and the part from a to below e was lent, painted and came back: those below e are
pub chunk_more : (xs was ys : List ℕ) (a e : ℕ) (u s : ℕ → ℕ) → a ≤ e → e ≤ length xs → SoFar s xs was a
    → ys ≡ paint every u (take (e - a) (drop a was)) → ((j : ℕ) → a + j < e → u j ≡ s (a + j))
    → SoFar s xs (take a was ++ (ys ++ drop (e - a) (drop a was))) e
chunk_more xs was ys a e u s ordered fits before is from = (
  all_long,
  paint_is (λ k. ltb k e) s xs all all_long
      (λ k h. ⊎_elim
      (λ lt. part_before was ys a e ordered room long k lt ∙ old k h (lt-ltb k a lt ∙ sym (lt-ltb k e (omega arith))))
      (λ ge. ⊎_elim
      (λ lt. let k-is : a + (k - a) ≡ k = omega arith in
      ap (λ (n : ℕ). get_or all n 0) (sym k-is)
      ∙ part_in was ys a e ordered room long (k - a) (omega arith)
      ∙ ap (λ (l : List ℕ). get_or l (k - a) 0) is
      ∙ get_d_paint every u _ (k - a) (omega (arith, part_long))
      ∙ from (k - a) (omega arith)
      ∙ ap s k-is
      ∙ sym (cond-true (ltb k e) _ _ (lt-ltb k e lt)))
      (λ ge'. part_after was ys a e ordered room long k ge' ∙ old k h (le-ltb k a (omega arith) ∙ sym (le-ltb k e ge')))
      (split k e))
      (split k a)),
)
  where
    all : List ℕ
    all = take a was ++ (ys ++ drop (e - a) (drop a was))

    room : e ≤ length was
    room = omega (arith, before.0, fits)

    part_long : length (take (e - a) (drop a was)) ≡ e - a
    part_long = length-take-le (e - a) (drop a was) (simp length-drop (omega (arith, ordered, room)))

    long : length ys ≡ e - a
    long = ap length is ∙ length-paint every u _ ∙ part_long

    all_long : length all ≡ length xs
    all_long = part_length was ys a e ordered room long ∙ before.0

    old : (k : ℕ) → k < length xs → ltb k a ≡ ltb k e → get_or was k 0 ≡ cond (ltb k e) (s k) (get_or xs k 0)
    old k h same = ap (λ (l : List ℕ). get_or l k 0) before.1 ∙ get_d_paint _ s xs k h ∙ ap (λ (b : Bool). cond b (s k) (get_or xs k 0)) same

-- the same where the part is each step-th sample of a row
pub picked_more : (step stride row first : ℕ) (plane xs was ys : List ℕ) (a e : ℕ) → first < step → a ≤ e → e ≤ length xs
    → SoFar (λ k. sample plane stride row (step * k + first)) xs was a
    → ys ≡ paint every (λ k. get_or (take (row * stride + step * e - (row * stride + step * a)) (drop (row * stride + step * a) plane)) (step * k + first) 0) (take (e - a) (drop a was))
    → SoFar (λ k. sample plane stride row (step * k + first)) xs (take a was ++ (ys ++ drop (e - a) (drop a was))) e
picked_more step stride row first plane xs was ys a e low ordered fits before is =
    chunk_more xs was ys a e _ _ ordered fits before is
    (λ j h. let at : step * a + (step * j + first) ≡ step * (a + j) + first = omega (arith, mul-add step a j) in
    let next : a + j + 1 ≤ e = omega arith in
    part_sample_lem plane stride row (row * stride) (step * a) (step * e) (step * j + first) refl (omega (arith, mul-le-mul_left step next, mul-add step (a + j) 1)) ∙ ap (sample plane stride row) at)

-- the bytes below i are written, by another name of i
pub so_far_at : (s : ℕ → ℕ) (xs : List ℕ) {ys : List ℕ} {i j : ℕ} → SoFar s xs ys i → i ≡ j → SoFar s xs ys j
so_far_at s xs {ys} before is = subst (λ (i : ℕ). SoFar s xs ys i) is before

-- the bytes below n and those from n to e, lent one after the other and painted from f and from g, are the whole row
pub two_parts : (xs ys zs : List ℕ) (n e : ℕ) (f g s : ℕ → ℕ) → length xs ≡ e → n ≤ e
    → ys ≡ paint every f (take (n - 0) (drop 0 xs))
    → zs ≡ paint every g (take (e - n) (drop n (take 0 xs ++ (ys ++ drop (n - 0) (drop 0 xs)))))
    → ((j : ℕ) → j < n → f j ≡ s j) → ((j : ℕ) → n + j < e → g j ≡ s (n + j))
    → take n (take 0 xs ++ (ys ++ drop (n - 0) (drop 0 xs))) ++ (zs ++ drop (e - n) (drop n (take 0 xs ++ (ys ++ drop (n - 0) (drop 0 xs))))) ≡ paint every s xs
two_parts xs ys zs n e f g s long less is is' first second =
    let left = chunk_more xs xs ys 0 n f s (omega arith) (omega arith) (so_far_none s xs) is (λ j h. first j (omega arith) ∙ ap s (omega arith)) in
    so_far_all s xs e (chunk_more xs _ zs n e g s less (omega arith) left is' (λ j h. second j (omega arith))) (omega arith)

-- what is seen of a plane: its samples below the stride, and `fill` past it
module _ (fill : ℕ) (plane : List ℕ) (stride row c : ℕ) where
  pub seen_inside : c < stride → sample plane stride row c ≡ seen fill plane stride row c
  unfolding seen
  seen_inside h = sym (cond-true (ltb c stride) _ fill (lt-ltb c stride h))

  pub seen_past : stride ≤ c → fill ≡ seen fill plane stride row c
  unfolding seen
  seen_past h = sym (cond-false (ltb c stride) _ fill (le-ltb c stride h))

-- a row that goes on: byte k is the sample at column `at k`, below the stride for the first n, and `fill` past it
pub row_goes_on : (fill : ℕ) (plane : List ℕ) (stride row : ℕ) (at : ℕ → ℕ) (xs ys zs : List ℕ) (n e : ℕ) → length xs ≡ e → n ≤ e
    → ((j : ℕ) → j < n → at j < stride) → ((j : ℕ) → stride ≤ at (n + j))
    → ys ≡ paint every (λ k. sample plane stride row (at k)) (take (n - 0) (drop 0 xs))
    → zs ≡ paint every (λ k. fill) (take (e - n) (drop n (take 0 xs ++ (ys ++ drop (n - 0) (drop 0 xs)))))
    → take n (take 0 xs ++ (ys ++ drop (n - 0) (drop 0 xs))) ++ (zs ++ drop (e - n) (drop n (take 0 xs ++ (ys ++ drop (n - 0) (drop 0 xs)))))
    ≡ paint every (λ k. seen fill plane stride row (at k)) xs
row_goes_on fill plane stride row at xs ys zs n e long less below past is is' =
    two_parts xs ys zs n e _ _ _ long less is is' (λ j h. seen_inside fill plane stride row (at j) (below j h)) (λ j h. seen_past fill plane stride row (at (n + j)) (past j))

-- the columns of such a row where each step-th sample is taken: those that are taken are below the stride, the others are not
module _ (step stride first : ℕ) (low : first < step) (even : stride % step ≡ 0) where
  pub picked_below : (j : ℕ) → j < stride / step → step * j + first < stride
  picked_below j h =
      let next : j + 1 ≤ stride / step = omega arith in
      omega (arith, mul-add step j 1, mul-le-mul_left step next)

  pub picked_past : (j : ℕ) → stride ≤ step * (stride / step + j) + first
  picked_past j = omega (arith, mul-add step (stride / step) j)

  pub picked_room : (n : ℕ) → stride ≤ step * n → stride / step ≤ n
  picked_room n room = grind arith

-- every second byte of every second byte is every fourth one
pub fourths_twice : (src z dst : List ℕ) (first : ℕ) → 2 * length dst ≤ length z → first < 4
    → paint every (λ k. get_or (paint every (λ j. get_or src (2 * j + first % 2) 0) z) (2 * k + first / 2) 0) dst ≡ paint every (λ k. get_or src (4 * k + first) 0) dst
fourths_twice src z dst first room below =
    paint_ext every every _ _ dst (λ k h. refl)
    (λ k h e. get_d_paint every _ z (2 * k + first / 2) (omega arith) ∙ ap (λ (j : ℕ). get_or src j 0) (omega arith))

-- the bytes of pairs
module _ (src z dst : List ℕ) (n : ℕ) (most : length dst ≤ n) (room : length dst ≤ length z) (byte : (k : ℕ) → get_or src k 0 < 256) where
  abbrev paired : List ℕ
  paired = paint (λ k. ltb k n) (pair_of src) z

  paired_at : (k : ℕ) → k < length dst → get_or paired k 0 ≡ get_or src (2 * k) 0 + 256 * get_or src (2 * k + 1) 0
  unfolding pair_of
  paired_at k h = get_d_paint _ _ z k (omega arith) ∙ cond-true (ltb k n) _ _ (lt-ltb k n (omega arith))

  -- the first byte of pair k, and the second
  pub first_of_lem : {first : ℕ} → first ≡ 0 → (k : ℕ) → k < length dst → get_or paired k 0 % 256 ≡ get_or src (2 * k + first) 0
  first_of_lem {first} none k h = let is : 2 * k ≡ 2 * k + first = omega arith in omega (arith, paired_at k h, byte (2 * k)) ∙ ap (λ (j : ℕ). get_or src j 0) is

  pub last_of : {first : ℕ} → first ≡ 1 → (k : ℕ) → k < length dst → get_or paired k 0 / 256 % 256 ≡ get_or src (2 * k + first) 0
  last_of {first} one k h = let is : 2 * k + 1 ≡ 2 * k + first = omega arith in omega (arith, paired_at k h, byte (2 * k), byte (2 * k + 1)) ∙ ap (λ (j : ℕ). get_or src j 0) is

  pub firsts_of : {first : ℕ} → first ≡ 0 → paint every (λ k. get_or paired k 0 % 256) dst ≡ paint every (λ k. get_or src (2 * k + first) 0) dst
  firsts_of none = paint_ext every every _ _ dst (λ k h. refl) (λ k h e. first_of_lem none k h)

  pub lasts_of : {first : ℕ} → first ≡ 1 → paint every (λ k. get_or paired k 0 / 256 % 256) dst ≡ paint every (λ k. get_or src (2 * k + first) 0) dst
  lasts_of one = paint_ext every every _ _ dst (λ k h. refl) (λ k h e. last_of one k h)
