-- What a part of a row reads from its sources, from their start on, in terms of the row's places. Assumes nothing.
use Prim.Native.Nat.{ℕ, ◌+◌, ◌*◌, ◌/◌, ◌%◌, ◌<◌, ◌≤◌}
use native.Mathlib.Omega.{arith}
use mathlib.Core.Path.{◌≡◌, sym, ap, ◌∙◌}
use mathlib.Core.Bool.{cond}
use mathlib.Core.Logic.{⊎_elim}
use mathlib.Core.List.{List}
use lib.Dec.{eqb}
use lib.ListN.{get_or, take, drop}
use lib.Seq.{get_or-take, get_or-drop}
use Rattle.columns.specs.Turns.{odd, even, woven}
use Rattle.columns.proofs.Turns.{woven-odd, woven-even, parity, by_fours}

pub odd_shift : (left j : ℕ) → left % 2 ≡ 0 → odd (left + j) ≡ odd j
unfolding odd
odd_shift left j e = let h : (left + j) % 2 ≡ j % 2 = omega arith in ap (λ (m : ℕ). eqb m 1) h

pub even-shift : (left j : ℕ) → left % 2 ≡ 0 → even (left + j) ≡ even j
unfolding even
even-shift left j e = let h : (left + j) % 2 ≡ j % 2 = omega arith in ap (λ (m : ℕ). eqb m 0) h

-- n bytes of src, from a on
pub part_at : (src : List ℕ) (a n j k : ℕ) → j < n → a + j ≡ k → get_or (take n (drop a src)) j 0 ≡ get_or src k 0
part_at src a n j k h e = get_or-take n (drop a src) j 0 h ∙ get_or-drop a src j 0 ∙ ap (λ (m : ℕ). get_or src m 0) e

-- two of them by turns, from byte p of each on
pub turns_from : (u v : List ℕ) (p n m i k : ℕ) → i / 2 < n → i / 2 < m → 2 * p + i ≡ k → woven (take n (drop p u)) (take m (drop p v)) i ≡ woven u v k
turns_from u v p n m i k hn hm e =
    ⊎_elim
    (λ o. woven-odd _ _ i o ∙ part_at v p m (i / 2) (k / 2) hm (omega arith) ∙ sym (woven-odd u v k (omega arith)))
    (λ z. woven-even _ _ i z ∙ part_at u p n (i / 2) (k / 2) hn (omega arith) ∙ sym (woven-even u v k (omega arith)))
    (parity i)

-- a part that begins at an even place has its odd places where the row has them
pub turn_shift : {x x' y y' : ℕ} (a j : ℕ) → a % 2 ≡ 0 → x ≡ x' → y ≡ y' → cond (odd j) x y ≡ cond (odd (a + j)) x' y'
turn_shift a j e p q i = cond (sym (odd_shift a j e) i) (p i) (q i)

-- the pieces of a row whose every place is written
module _ (from u v : List ℕ) where
  -- its first pair, where it begins with v
  pub first_pair : (lead col j : ℕ) → lead < 2 → col ≤ 2 * lead → 0 + j < col → woven v from j ≡ cond (odd (0 + j)) (get_or from ((0 + j) / 2) 0) (woven u v (lead + (0 + j) / 2))
  unfolding woven
  first_pair lead col j lt le h =
      let same : j / 2 ≡ (0 + j) / 2 = omega arith in
      let half : j / 2 ≡ (lead + (0 + j) / 2) / 2 = omega arith in
      turn_shift 0 j (omega arith) (ap (λ (m : ℕ). get_or from m 0) same) (ap (λ (m : ℕ). get_or v m 0) half ∙ sym (woven-odd u v (lead + (0 + j) / 2) (omega arith)))

  -- what is left of it begins with u
  pub rest_by_fours : (lead col n m m' j : ℕ) → col ≡ 2 * lead → j / 2 < n → j / 4 < m → j / 4 < m'
      → by_fours (take n (drop (col / 2) from)) (take m (drop lead u)) (take m' (drop lead v)) j
      ≡ cond (odd (col + j)) (get_or from ((col + j) / 2) 0) (woven u v (lead + (col + j) / 2))
  rest_by_fours lead col n m m' j e h h' h'' =
      turn_shift col j (omega arith) (part_at from (col / 2) n (j / 2) ((col + j) / 2) h (omega arith))
      (turns_from u v lead m m' (j / 2) (lead + (col + j) / 2) (omega arith) (omega arith) (omega arith))

  -- and of that the pair behind n fours
  pub last_pair : (n m m' j : ℕ) → j < 2 → 0 < m → 0 < m' → woven (take m (drop n u)) (take m' (drop (2 * n) from)) j ≡ by_fours from u v (4 * n + j)
  unfolding woven
  last_pair n m m' j h p p' =
      turn_shift (4 * n) j (omega arith) (part_at from (2 * n) m' (j / 2) ((4 * n + j) / 2) (omega arith) (omega arith))
      (part_at u n m (j / 2) ((4 * n + j) / 2 / 2) (omega arith) (omega arith) ∙ sym (woven-even u v ((4 * n + j) / 2) (omega arith)))
