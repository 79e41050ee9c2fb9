-- The map after a call, by boxes: a rectangle marks or completes exactly the blocks of its widened area below the view's limits, and painting
-- these by a list is the map that the words give. Assumes nothing.
use Prim.Native.Nat.{ℕ, ◌*◌, ◌<◌, ◌≤◌}
use native.Mathlib.Omega.{arith}
use mathlib.Core.Path.{◌≡◌, refl, sym, ap, ◌∙◌}
use mathlib.Core.Bool.{Bool, true, false, cond, ◌&&◌, and_assoc}
use mathlib.Core.List.{List}
use lib.Dec.{ltb, eqb}
use lib.ListN.{length}
use borrow.Author.Tests.{lt-ltb, ltb-true}
use Rattle.lent.specs.Paint.{painted, whole}
use Rattle.lent.specs.Samples.{sample}
use Rattle.lent.specs.Sizes.{half_up}
use Rattle.lent.proofs.Bools.{same_test, never_true, both, both_left, both_right}
use Rattle.lent.proofs.Painted.{length_painted, painted_at, painted_past, painted_is, painted_none, painted_ext}
use Rattle.lent.proofs.Taken.{box_facts, box_holds}
use Rattle.picture.specs.declared.Size.{Size}
use Rattle.view.specs.declared.View.{View}
use Rattle.layout.specs.declared.Layout.{Layout}
use Rattle.rects.specs.declared.Area.{Area}
use Rattle.rects.specs.declared.Rect.{Rect}
use Rattle.rects.specs.Rects.{taken, by, area, in_area}
use Rattle.rects.proofs.Rects.{taken_beside, area_facts, area_holds}
use Rattle.apply_main.specs.Main.{main_chroma}
use Rattle.map.specs.Map.{across_of, down_of, held_of, turned_of, turned_at, BoxFits}
use Rattle.map_apply.specs.declared.Limits.{Limits}
use Rattle.map_apply.specs.Blocks.{main_marks, auxiliary_completes, map_after}
use Rattle.map_apply.specs.Blocks.Call.{Main, Auxiliary}
use Rattle.map_apply.specs.Boxes.{main_limits_of, auxiliary_limits_of, block_box_of, in_blocks}
use Rattle.map_apply.proofs.Blocks.{block_area, block_widened, main_any, auxiliary_completes_lem, complete_exactly, below_facts, below_holds}

-- ---- a rectangle's box of blocks is its widened area below the limits

module _ (z : Size) (l : Limits) where
  in_blocks_lem : (i j left top right bottom : ℕ) → in_blocks z l left top right bottom i j ≡ (area z left top right bottom (2 * i) (2 * j) && (ltb i l.down && ltb j l.across))
  unfolding in_blocks
  in_blocks_lem i j left top right bottom =
      same_test _ _
      (λ e. let f = box_facts _ _ _ _ i j e in
      both (area z left top right bottom (2 * i) (2 * j)) _
      (area_holds z left top right bottom (2 * i) (2 * j) (omega arith) (omega arith) (omega arith) (omega arith))
      (below_holds i l.down j l.across (omega arith) (omega arith)))
      (λ e. let f = area_facts z left top right bottom (2 * i) (2 * j) (both_left (area z left top right bottom (2 * i) (2 * j)) _ e) in
      let g = below_facts i l.down j l.across (both_right (area z left top right bottom (2 * i) (2 * j)) _ e) in
      box_holds _ _ _ _ i j (omega arith) (omega arith) (omega arith) (omega arith))

  -- and so of a list
  pub widened_below : (rects : List ℕ) (i j : ℕ) → (taken (area z) rects (2 * i) (2 * j) && (ltb i l.down && ltb j l.across)) ≡ taken (in_blocks z l) rects i j
  widened_below rects i j =
      ap (λ (b : Bool). b && (ltb i l.down && ltb j l.across)) (sym (block_widened z rects i j))
      ∙ sym (taken_beside (in_blocks z l) (block_area z) (ltb i l.down && ltb j l.across) rects i j (in_blocks_lem i j))

-- ---- which blocks a call marks or completes

half_below : (i n : ℕ) → ltb (2 * i) n ≡ ltb i (half_up n)
half_below i n = same_test _ _ (λ e. let f = ltb-true (2 * i) n e in lt-ltb i (half_up n) (omega arith)) (λ e. let f = ltb-true i (half_up n) e in lt-ltb (2 * i) n (omega arith))

pub marks_boxes : (z : Size) (w : View) (rects : List ℕ) (i j : ℕ) → main_marks z w rects i j ≡ taken (in_blocks z (main_limits_of w)) rects i j
unfolding main_chroma
marks_boxes z w rects i j =
    main_any z w rects i j
    ∙ taken_beside (main_chroma z w) (area z) (ltb (2 * i) w.height && ltb (2 * j) w.width) rects (2 * i) (2 * j)
    (λ left top right bottom. and_assoc (area z left top right bottom (2 * i) (2 * j)) (ltb (2 * i) w.height) (ltb (2 * j) w.width))
    ∙ (λ k. taken (area z) rects (2 * i) (2 * j) && (half_below i w.height k && half_below j w.width k))
    ∙ widened_below z (main_limits_of w) rects i j

pub completes_boxes : (t : Layout) (z : Size) (w : View) (rects : List ℕ) (i j : ℕ) → auxiliary_completes t z w rects i j ≡ taken (in_blocks z (auxiliary_limits_of t w)) rects i j
completes_boxes t z w rects i j =
    auxiliary_completes_lem t z w rects i j
    ∙ ap (λ (b : Bool). taken (area z) rects (2 * i) (2 * j) && b) (complete_exactly t w i j)
    ∙ widened_below z (auxiliary_limits_of t w) rects i j

-- ---- the map after a call

-- painting by a test is painting all, where what the test leaves is as it was
pub painted_all : (w h : ℕ) (t : ℕ → ℕ → Bool) (s : ℕ → ℕ → ℕ) (xs : List ℕ) → h * w ≤ length xs
    → painted w h t s xs ≡ painted w h whole (λ r c. cond (t r c) (s r c) (sample xs w r c)) xs
unfolding sample
painted_all w h t s xs fits =
    painted_is w h whole _ xs (painted w h t s xs) (length_painted w h t s xs)
    (λ r c hr hc. painted_at w h t s xs r c hr hc fits)
    (λ k ge hk. painted_past w h t s xs k ge hk)

turned_cond : (b : Bool) (n : ℕ) → cond b (turned_of n) n ≡ cond (b && eqb n 1) 2 n
turned_cond true n = refl
turned_cond false n = refl

module _ (z : Size) (w : View) (rects m : List ℕ) (fits : down_of z * across_of z ≤ length m) where
  pub map_marked : painted (across_of z) (down_of z) (taken (in_blocks z (main_limits_of w)) rects) (λ i j. 1) m ≡ map_after z (Main w rects) m
  unfolding map_after
  map_marked =
      painted_all _ _ _ _ m fits
      ∙ painted_ext _ _ _ _ _ _ m (λ i j hi hj. refl) (λ i j hi hj e. ap (λ (b : Bool). cond b 1 (held_of z m i j)) (sym (marks_boxes z w rects i j)))

  pub map_completed : (t : Layout)
      → painted (across_of z) (down_of z) (taken (in_blocks z (auxiliary_limits_of t w)) rects) (turned_at m (across_of z)) m ≡ map_after z (Auxiliary t w rects) m
  unfolding map_after turned_at
  map_completed t =
      painted_all _ _ _ _ m fits
      ∙ painted_ext _ _ _ _ _ _ m (λ i j hi hj. refl)
      (λ i j hi hj e. turned_cond (taken (in_blocks z (auxiliary_limits_of t w)) rects i j) (held_of z m i j)
      ∙ ap (λ (b : Bool). cond (b && eqb (held_of z m i j) 1) 2 (held_of z m i j)) (sym (completes_boxes t z w rects i j)))

-- ---- what the code asks of a box, and what it leaves

module _ (z : Size) (l : Limits) (rect : Rect) {b : Area} (is : b ≡ block_box_of z l rect.left rect.top rect.right rect.bottom) where
  -- a box of blocks lies in the map
  pub box_fits : (n : ℕ) → down_of z * across_of z ≤ n → b.left < b.right → BoxFits z n b
  box_fits n fits some = rw is (record { map_fits = fits; rows_inside = omega arith; ordered = omega (arith, rw is at some); inside = omega arith })

  module _ (s : ℕ → ℕ → ℕ) (xs : List ℕ) where
    -- to paint the box is to paint what the rectangle takes
    pub box_painted : painted (across_of z) (down_of z) (in_area b) s xs ≡ painted (across_of z) (down_of z) (by (in_blocks z l) rect) s xs
    unfolding in_blocks
    box_painted = ap (λ (a : Area). painted (across_of z) (down_of z) (in_area a) s xs) is

    -- no column, so nothing is taken
    pub box_none : b.right ≤ b.left → xs ≡ painted (across_of z) (down_of z) (by (in_blocks z l) rect) s xs
    box_none none =
        painted_none _ _ _ s xs (λ i j hi hj. never_true _ (λ e. let f = box_facts b.top b.bottom b.left b.right i j e in omega arith))
        ∙ box_painted
