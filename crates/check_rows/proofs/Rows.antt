-- The columns of a row that are right, and the first that is wrong: one column more, one part more, and what is left.
-- Assumes nothing.
use Prim.Native.Nat.{ℕ, ◌+◌, ◌*◌, ◌-◌, ◌<◌, ◌≤◌}
use native.Mathlib.Nat.{zero-add, mul-add, mul-le-mul_left}
use native.Mathlib.Omega.{arith}
use mathlib.Core.Path.{◌≡◌, refl, sym, ap, ◌∙◌, subst}
use mathlib.Core.Bool.{not}
use mathlib.Core.Logic.{◌↔◌}
use mathlib.Core.List.{List}
use lib.Dec.{eqb}
use lib.ListN.{length, get_or, take, drop}
use lib.Seq.{get_or-take, get_or-drop}
use borrow.Author.Count.{below_none, below_more}
use borrow.Author.Tests.{eq-eqb, ne_eqb, eqb-true, not-false}
use Rattle.lent.specs.Counts.{first_where}
use Rattle.lent.proofs.First.{Passed, first_none, first_at, first_low}
use Rattle.lent.proofs.ByPart.{part_long}
use Rattle.check_rows.specs.Rows.{wrong_at, first_wrong, Right}
use Rattle.check_rows.proofs.Firsts.{passed_join, passed_all, first_later, first_rest, first_same}

-- the part of a row, or of its source, from column a to below column e
abbrev pub part_of : List ℕ → ℕ → ℕ → List ℕ
part_of xs a e = take (e - a) (drop a xs)

pub part_at : (xs : List ℕ) (a e j : ℕ) → a + j < e → get_or (part_of xs a e) j 0 ≡ get_or xs (a + j) 0
part_at xs a e j h = get_or-take (e - a) (drop a xs) j 0 (omega arith) ∙ get_or-drop a xs j 0

-- a source that has `step` bytes for each column
module _ (step a e : ℕ) where
  pub step_at : (xs : List ℕ) (from j : ℕ) → from < step → a + j < e → get_or (part_of xs (step * a) (step * e)) (step * j + from) 0 ≡ get_or xs (step * (a + j) + from) 0
  step_at xs from j low h =
      let at : step * a + (step * j + from) ≡ step * (a + j) + from = omega (arith, mul-add step a j) in
      let next : a + j + 1 ≤ e = omega arith in
      part_at xs (step * a) (step * e) (step * j + from) (omega (arith, mul-le-mul_left step next, mul-add step (a + j) 1)) ∙ ap (λ (k : ℕ). get_or xs k 0) at

-- ---- a row

module _ (row : List ℕ) (s : ℕ → ℕ) where
  -- what is right was passed
  pub right_passed : (n : ℕ) → Right row s n ↔ Passed (wrong_at row s) n
  right_passed n = (λ right j h. ap not (eq-eqb _ _ (right j h)), λ passed j h. eqb-true _ _ (not-false _ (passed j h)))

  pub right_none : Right row s 0
  right_none = below_none (λ c. get_or row c 0 ≡ s c)

  pub right_more : (i : ℕ) → Right row s i → get_or row i 0 ≡ s i → Right row s (i + 1)
  right_more i before here = below_more (λ c. get_or row c 0 ≡ s c) i before here

  -- column i is wrong, and those before it are right
  pub wrong_at_lem : (i : ℕ) → i < length row → Right row s i → (get_or row i 0 ≡ s i → ⊥) → i ≡ first_wrong row s
  unfolding first_wrong
  wrong_at_lem i low before here = sym (first_at (length row) (wrong_at row s) i low ((right_passed i).0 before) (ap not (ne_eqb _ _ here)))

  pub wrong_none : (n : ℕ) → n ≡ length row → Right row s n → n ≡ first_wrong row s
  unfolding first_wrong
  wrong_none n end right = end ∙ sym (first_none (length row) (wrong_at row s) ((right_passed (length row)).0 (subst (Right row s) end right)))

  -- of the columns from a on, k is the first that is wrong: there are that many
  pub wrong_in : (a : ℕ) {k : ℕ} → a ≤ length row → k ≡ first_wrong (part_of row a (length row)) s → a + k ≤ length row
  unfolding first_wrong
  wrong_in a h is = omega (arith, is, first_low (length (part_of row a (length row))) (wrong_at (part_of row a (length row)) s), part_long row a (length row) h (omega arith))

-- two sources that agree
pub right_same : (row : List ℕ) (s s' : ℕ → ℕ) (n : ℕ) {m : ℕ} {A : Type 0} → m ≡ n → ((c : ℕ) → c < n → s c ≡ s' c) → A ↔ Right row s m → A ↔ Right row s' n
right_same row s s' n {m} is agree f = (λ a c h. f.0 a c (omega arith) ∙ agree c h, λ right. f.1 (λ c h. right c (omega arith) ∙ sym (agree c (omega arith))))

-- ---- a part of a row, from column a to below column e, beside a source of its own; the columns before it are right

module _ (row : List ℕ) (s s' : ℕ → ℕ) (a e : ℕ) (ordered : a ≤ e) (fits : e ≤ length row) (same : (j : ℕ) → a + j < e → s' j ≡ s (a + j)) (before : Right row s a) where
  -- the first m columns of the part are right too
  pub right_part : (m : ℕ) → a + m ≤ e → Right (part_of row a e) s' m → Right row s (a + m)
  right_part m room right =
      (right_passed row s (a + m)).1
      (passed_join (wrong_at row s) a m ((right_passed row s a).0 before)
      (λ j h. ap not (eq-eqb _ _ (sym (part_at row a e j (omega arith)) ∙ right j h ∙ same j (omega arith)))))

  part_test : (j : ℕ) → j < e - a → wrong_at (part_of row a e) s' j ≡ wrong_at row s (a + j)
  part_test j h =
      ap (λ (x : ℕ). not (eqb x (s' j))) (part_at row a e j (omega arith)) ∙ ap (λ (y : ℕ). not (eqb (get_or row (a + j) 0) y)) (same j (omega arith))

  part_first : first_wrong (part_of row a e) s' ≡ first_where (e - a) (λ j. wrong_at row s (a + j))
  unfolding first_wrong
  part_first = ap (λ (n : ℕ). first_where n (wrong_at (part_of row a e) s')) (part_long row a e ordered fits) ∙ first_same (e - a) _ _ part_test

  -- column k of the part is its first that is wrong
  pub wrong_part : {k : ℕ} → k ≡ first_wrong (part_of row a e) s' → a + k < e → a + k ≡ first_wrong row s
  unfolding first_wrong
  wrong_part is low = sym (first_later (length row) (wrong_at row s) a (e - a) ((right_passed row s a).0 before) (is ∙ part_first) (omega arith) (omega arith))

  -- the part is all that is left
  pub wrong_rest : {k : ℕ} → k ≡ first_wrong (part_of row a e) s' → e ≡ length row → a + k ≡ first_wrong row s
  unfolding first_wrong
  wrong_rest is end = sym (first_rest (length row) (wrong_at row s) a (e - a) ((right_passed row s a).0 before) (is ∙ part_first) (omega arith))

  -- none of its columns is wrong
  pub right_all : {k : ℕ} → k ≡ first_wrong (part_of row a e) s' → e ≤ a + k → Right row s e
  right_all {k} is end =
      let first = is ∙ part_first in
      let all : k ≡ e - a = omega (arith, first_low (e - a) (λ j. wrong_at row s (a + j))) in
      let whole : a + (e - a) ≡ e = omega arith in
      subst (Right row s) whole
      ((right_passed row s (a + (e - a))).1
      (passed_join (wrong_at row s) a (e - a) ((right_passed row s a).0 before) (passed_all (e - a) (λ j. wrong_at row s (a + j)) (sym first ∙ all))))

-- ---- a row whose first columns, up to `most`, have a source of their own, and whose others are all to be `fill`

module _ (row : List ℕ) (s s' : ℕ → ℕ) (most : ℕ) (less : most ≤ length row) (inside : (j : ℕ) → j < most → s' j ≡ s j) {k : ℕ} (is : k ≡ first_wrong (part_of row 0 most) s') where
  same : (j : ℕ) → 0 + j < most → s' j ≡ s (0 + j)
  same j h = inside j (omega arith) ∙ ap s (sym (zero-add j))

  pub found_inside : k < most → k ≡ first_wrong row s
  found_inside low = sym (zero-add k) ∙ wrong_part row s s' 0 most (omega arith) less same (right_none row s) is (omega arith)

  -- none of the first columns is wrong
  first_right : most ≤ k → Right row s most
  first_right all = right_all row s s' 0 most (omega arith) less same (right_none row s) is (omega arith)

  pub found_none : most ≤ k → length row ≡ most → length row ≡ first_wrong row s
  found_none all end = end ∙ wrong_none row s most (sym end) (first_right all)

  pub found_past : (fill : ℕ) {m : ℕ} → most ≤ k → ((j : ℕ) → most ≤ j → fill ≡ s j) → m ≡ first_wrong (part_of row most (length row)) (λ c. fill)
      → most + m ≡ first_wrong row s
  found_past fill all past rest =
      wrong_rest row s (λ c. fill) most (length row) less (omega arith) (λ j h. past (most + j) (omega arith)) (first_right all) rest refl

-- ---- a part of a row that is to be its source, and of one that takes each step-th byte of it

module _ (row src : List ℕ) (a e : ℕ) (ordered : a ≤ e) (fits : e ≤ length row) where
  pub copied_part : Right row (λ c. get_or src c 0) a → (m : ℕ) → a + m ≤ e → Right (part_of row a e) (λ c. get_or (part_of src a e) c 0) m → Right row (λ c. get_or src c 0) (a + m)
  copied_part before = right_part row (λ c. get_or src c 0) (λ c. get_or (part_of src a e) c 0) a e ordered fits (λ j h. part_at src a e j h) before

  pub taken_part : (step from : ℕ) → from < step → Right row (λ c. get_or src (step * c + from) 0) a → (m : ℕ) → a + m ≤ e
      → Right (part_of row a e) (λ c. get_or (part_of src (step * a) (step * e)) (step * c + from) 0) m
      → Right row (λ c. get_or src (step * c + from) 0) (a + m)
  taken_part step from low before =
      right_part row (λ c. get_or src (step * c + from) 0) (λ c. get_or (part_of src (step * a) (step * e)) (step * c + from) 0) a e ordered fits (λ j h. step_at step a e src from j low h) before

  pub taken_rest : (step from : ℕ) {k : ℕ} → from < step → Right row (λ c. get_or src (step * c + from) 0) a → e ≡ length row
      → k ≡ first_wrong (part_of row a e) (λ c. get_or (part_of src (step * a) (step * e)) (step * c + from) 0)
      → a + k ≡ first_wrong row (λ c. get_or src (step * c + from) 0)
  taken_rest step from low before end is =
      wrong_rest row (λ c. get_or src (step * c + from) 0) (λ c. get_or (part_of src (step * a) (step * e)) (step * c + from) 0) a e ordered fits (λ j h. step_at step a e src from j low h) before is end
