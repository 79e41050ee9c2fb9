-- Blocks: a widened area has all of a block or nothing of it, so what a list takes of a block, one of its rectangles takes alone; and which
-- blocks a view has all three other samples of does not depend on the rectangle. Assumes nothing.
use Prim.Native.Nat.{ℕ, ◌+◌, ◌*◌, ◌/◌, ◌%◌, ◌<◌}
use native.Mathlib.Omega.{arith}
use mathlib.Core.Path.{◌≡◌, refl, sym, ap, ◌∙◌}
use mathlib.Core.Bool.{Bool, true, false, ◌&&◌, ◌||◌}
use mathlib.Core.Logic.{⊎_elim}
use mathlib.Core.List.{List}
use lib.Dec.{ltb}
use borrow.Author.Tests.{lt-ltb, ltb-true}
use Rattle.lent.proofs.Bools.{same_test, both, both_left, both_right, either, or_left}
use Rattle.picture.specs.declared.Size.{Size}
use Rattle.view.specs.declared.View.{View}
use Rattle.layout.specs.declared.Layout.{Layout}
use Rattle.layout.specs.declared.Layout.TheVariants.{V1, V2}
use Rattle.layout.specs.Maps.{upper_of}
use Rattle.layout.specs.Exists.{fed}
use Rattle.layout.proofs.Pairs.{v1_odd_facts, v1_odd_holds, v1_even_holds, v2_odd_facts, v2_odd_holds, v2_even_holds}
use Rattle.rects.specs.Rects.{Rule, taken, taken_by, nth, rect_at_of, area}
use Rattle.rects.proofs.Rects.{taken_facts, taken_holds, taken_beside, area_facts, area_holds}
use Rattle.apply_main.specs.Main.{main_chroma}
use Rattle.apply_main.proofs.Main.{main_chroma_facts, main_chroma_holds}
use Rattle.apply_auxiliary.specs.Auxiliary.{auxiliary_in, auxiliary_rule}
use Rattle.map_apply.specs.Blocks.{other_of, main_marks, auxiliary_completes}
use Rattle.map_apply.specs.Boxes.{auxiliary_limits_of}

-- ---- a widened area has all of a block or nothing of it

module _ (z : Size) (left top right bottom i j : ℕ) where
  pub area_block : (r c : ℕ) → r / 2 ≡ i → c / 2 ≡ j → area z left top right bottom r c ≡ area z left top right bottom (2 * i) (2 * j)
  area_block r c hr hc =
      same_test _ _
      (λ e. let f = area_facts z left top right bottom r c e in
      area_holds z left top right bottom (2 * i) (2 * j) (omega arith) (omega arith) (omega arith) (omega arith))
      (λ e. let f = area_facts z left top right bottom (2 * i) (2 * j) e in
      area_holds z left top right bottom r c (omega arith) (omega arith) (omega arith) (omega arith))

-- a rule that says the same of two places: a list takes both or neither
taken_moved : (rule : Rule) (rects : List ℕ) (r c r' c' : ℕ) → ((left top right bottom : ℕ) → rule left top right bottom r c ≡ rule left top right bottom r' c')
    → taken rule rects r c ≡ taken rule rects r' c'
unfolding nth
taken_moved rule rects r c r' c' is =
    same_test _ _
    (λ e. let f = taken_facts rule rects r c e in
    let q = rect_at_of rects f.0 in
    taken_holds rule rects r' c' f.0 f.1.0 (sym (is q.left q.top q.right q.bottom) ∙ f.1.1))
    (λ e. let f = taken_facts rule rects r' c' e in
    let q = rect_at_of rects f.0 in
    taken_holds rule rects r c f.0 f.1.0 (is q.left q.top q.right q.bottom ∙ f.1.1))

pub widened_block : (z : Size) (rects : List ℕ) (i j r c : ℕ) → r / 2 ≡ i → c / 2 ≡ j → taken (area z) rects r c ≡ taken (area z) rects (2 * i) (2 * j)
widened_block z rects i j r c hr hc = taken_moved (area z) rects _ _ _ _ (λ left top right bottom. area_block z left top right bottom i j r c hr hc)

-- the blocks of a rectangle's widened area, as a rule of blocks
abbrev pub block_area : Size → Rule
block_area z left top right bottom r c = area z left top right bottom (2 * r) (2 * c)

pub block_widened : (z : Size) (rects : List ℕ) (i j : ℕ) → taken (block_area z) rects i j ≡ taken (area z) rects (2 * i) (2 * j)
unfolding taken_by nth
block_widened z rects i j = refl

-- ---- a main view takes any chroma of a block exactly where it takes the even-even sample

module _ (z : Size) (w : View) (rects : List ℕ) (i j : ℕ) where
  abbrev main : ℕ → ℕ → Bool
  main = taken (main_chroma z w) rects

  -- a place of the block that is taken has the even-even one with it
  back : (r c : ℕ) → r / 2 ≡ i → c / 2 ≡ j → main r c ≡ true → main (2 * i) (2 * j) ≡ true
  unfolding nth
  back r c hr hc e =
      let f = taken_facts (main_chroma z w) rects r c e in
      let q = rect_at_of rects f.0 in
      let g = main_chroma_facts z w q.left q.top q.right q.bottom r c f.1.1 in
      taken_holds (main_chroma z w) rects (2 * i) (2 * j) f.0 f.1.0
      (main_chroma_holds z w q.left q.top q.right q.bottom (2 * i) (2 * j) (omega arith) (omega arith) (omega arith) (omega arith))

  pub main_any : main_marks z w rects i j ≡ taken (main_chroma z w) rects (2 * i) (2 * j)
  main_any =
      same_test _ _
      (λ e. ⊎_elim
      (λ d. ⊎_elim
      (λ g. ⊎_elim (λ h. h) (back (2 * i) (2 * j + 1) (omega arith) (omega arith)) (either (main (2 * i) (2 * j)) (main (2 * i) (2 * j + 1)) g))
      (back (2 * i + 1) (2 * j) (omega arith) (omega arith))
      (either (main (2 * i) (2 * j) || main (2 * i) (2 * j + 1)) (main (2 * i + 1) (2 * j)) d))
      (back (2 * i + 1) (2 * j + 1) (omega arith) (omega arith))
      (either (main (2 * i) (2 * j) || main (2 * i) (2 * j + 1) || main (2 * i + 1) (2 * j)) (main (2 * i + 1) (2 * j + 1)) e))
      (λ e. or_left _ _ (or_left _ _ (or_left _ _ e)))

-- ---- an auxiliary view: what a list takes of a block, each sample by some rectangle, one rectangle takes alone

-- one rectangle takes all three other samples: a rule of blocks
abbrev pub completed_by : Layout → Size → View → Rule
completed_by t z w left top right bottom = other_of (auxiliary_rule t z w left top right bottom)

thrice : (x a b c : Bool) → ((x && a) && (x && b) && (x && c)) ≡ (x && (a && b && c))
thrice true a b c = refl
thrice false a b c = refl

module _ (t : Layout) (z : Size) (w : View) (rects : List ℕ) (i j : ℕ) where
  abbrev given : ℕ → ℕ → Bool
  given = fed t w.width w.height

  -- what is taken is what is widened and given
  at : (r c : ℕ) → r / 2 ≡ i → c / 2 ≡ j → taken (auxiliary_rule t z w) rects r c ≡ (taken (area z) rects (2 * i) (2 * j) && given r c)
  unfolding auxiliary_in
  at r c hr hc =
      taken_beside (auxiliary_rule t z w) (area z) (given r c) rects r c (λ left top right bottom. refl)
      ∙ ap (λ (b : Bool). b && given r c) (widened_block z rects i j r c hr hc)

  -- the list completes a block exactly where it is widened there and the view has all three samples
  pub auxiliary_completes_lem : auxiliary_completes t z w rects i j ≡ (taken (area z) rects (2 * i) (2 * j) && other_of (fed t w.width w.height) i j)
  auxiliary_completes_lem =
      (λ k. at (2 * i) (2 * j + 1) (omega arith) (omega arith) k && at (2 * i + 1) (2 * j) (omega arith) (omega arith) k && at (2 * i + 1) (2 * j + 1) (omega arith) (omega arith) k)
      ∙ thrice (taken (area z) rects (2 * i) (2 * j)) _ _ _

  -- and so does one rectangle
  one : (left top right bottom : ℕ) → completed_by t z w left top right bottom i j ≡ (area z left top right bottom (2 * i) (2 * j) && other_of given i j)
  unfolding auxiliary_in
  one left top right bottom =
      (λ k. (area_block z left top right bottom i j (2 * i) (2 * j + 1) (omega arith) (omega arith) k && given (2 * i) (2 * j + 1))
      && (area_block z left top right bottom i j (2 * i + 1) (2 * j) (omega arith) (omega arith) k && given (2 * i + 1) (2 * j))
      && (area_block z left top right bottom i j (2 * i + 1) (2 * j + 1) (omega arith) (omega arith) k && given (2 * i + 1) (2 * j + 1)))
      ∙ thrice (area z left top right bottom (2 * i) (2 * j)) _ _ _

  pub by_one : auxiliary_completes t z w rects i j ≡ taken (completed_by t z w) rects i j
  by_one =
      auxiliary_completes_lem
      ∙ ap (λ (b : Bool). b && other_of given i j) (sym (block_widened z rects i j))
      ∙ sym (taken_beside (completed_by t z w) (block_area z) (other_of given i j) rects i j one)

-- ---- which blocks a view has all three other samples of: a box from the first block on, in either layout and whatever W is

module _ (t : ℕ → ℕ → Bool) (i j : ℕ) where
  -- the last of the three, which asks the most
  pub other_last : other_of t i j ≡ true → t (2 * i + 1) (2 * j + 1) ≡ true
  other_last e = both_right (t (2 * i) (2 * j + 1) && t (2 * i + 1) (2 * j)) (t (2 * i + 1) (2 * j + 1)) e

  pub other_holds : t (2 * i) (2 * j + 1) ≡ true → t (2 * i + 1) (2 * j) ≡ true → t (2 * i + 1) (2 * j + 1) ≡ true → other_of t i j ≡ true
  other_holds p q r = both (t (2 * i) (2 * j + 1) && t (2 * i + 1) (2 * j)) (t (2 * i + 1) (2 * j + 1)) (both (t (2 * i) (2 * j + 1)) (t (2 * i + 1) (2 * j)) p q) r

module _ (a b c d : ℕ) where
  pub below_facts : (ltb a b && ltb c d) ≡ true → (a < b) × (c < d)
  below_facts e = (ltb-true a b (both_left (ltb a b) (ltb c d) e), ltb-true c d (both_right (ltb a b) (ltb c d) e))

  pub below_holds : a < b → c < d → (ltb a b && ltb c d) ≡ true
  below_holds p q = both (ltb a b) (ltb c d) (lt-ltb a b p) (lt-ltb c d q)

-- V1: where the U row of a block's odd row stands
upper_block : (i : ℕ) → upper_of (2 * i + 1) ≡ 16 * (i / 8) + i % 8
upper_block i =
    let a : (2 * i + 1) % 16 ≡ 2 * (i % 8) + 1 = omega arith in
    let b : (2 * (i % 8) + 1) / 2 ≡ i % 8 = omega arith in
    rw (a, b) (omega arith)

module _ (w : View) (i j : ℕ) where
  pub v1_complete : other_of (fed V1 w.width w.height) i j ≡ (ltb i (auxiliary_limits_of V1 w).down && ltb j (auxiliary_limits_of V1 w).across)
  v1_complete =
      same_test _ _
      (λ e. let f = rw (upper_block i) at (v1_odd_facts w.width w.height (2 * i + 1) (2 * j + 1) (omega arith) (other_last (fed V1 w.width w.height) i j e)) in
      below_holds i (auxiliary_limits_of V1 w).down j (auxiliary_limits_of V1 w).across (omega arith) (omega arith))
      (λ e. let f = below_facts i (auxiliary_limits_of V1 w).down j (auxiliary_limits_of V1 w).across e in
      let v : upper_of (2 * i + 1) + 8 < w.height = rw (upper_block i) (omega arith) in
      other_holds (fed V1 w.width w.height) i j
      (v1_even_holds w.width w.height (2 * i) (2 * j + 1) (omega arith) (omega arith) (omega arith) (omega arith))
      (v1_odd_holds w.width w.height (2 * i + 1) (2 * j) (omega arith) v (omega arith))
      (v1_odd_holds w.width w.height (2 * i + 1) (2 * j + 1) (omega arith) v (omega arith)))

  pub v2_complete : (W : ℕ) → other_of (fed (V2 W) w.width w.height) i j ≡ (ltb i (auxiliary_limits_of (V2 W) w).down && ltb j (auxiliary_limits_of (V2 W) w).across)
  v2_complete W =
      same_test _ _
      (λ e. let f = v2_odd_facts W w.width w.height (2 * i + 1) (2 * j + 1) (omega arith) (other_last (fed (V2 W) w.width w.height) i j e) in
      below_holds i (auxiliary_limits_of (V2 W) w).down j (auxiliary_limits_of (V2 W) w).across (omega arith) (omega arith))
      (λ e. let f = below_facts i (auxiliary_limits_of (V2 W) w).down j (auxiliary_limits_of (V2 W) w).across e in
      other_holds (fed (V2 W) w.width w.height) i j
      (v2_odd_holds W w.width w.height (2 * i) (2 * j + 1) (omega arith) (omega arith) (omega arith))
      (v2_even_holds W w.width w.height (2 * i + 1) (2 * j) (omega arith) (omega arith) (omega arith) (omega arith))
      (v2_odd_holds W w.width w.height (2 * i + 1) (2 * j + 1) (omega arith) (omega arith) (omega arith)))

pub complete_exactly : (t : Layout) (w : View) (i j : ℕ)
    → other_of (fed t w.width w.height) i j ≡ (ltb i (auxiliary_limits_of t w).down && ltb j (auxiliary_limits_of t w).across)
complete_exactly V1 w i j = v1_complete w i j
complete_exactly (V2 W) w i j = v2_complete w i j W
