-- What the rules of the calls take over a list, in the words of demand 3: at a pixel of the picture the main view's luma is what lies
-- inside. Assumes nothing.
use Prim.Native.Nat.{ℕ, ◌<◌, ◌≤◌}
use native.Mathlib.Omega.{arith}
use mathlib.Core.Path.{◌≡◌}
use mathlib.Core.Bool.{true}
use mathlib.Core.List.{List}
use Rattle.lent.proofs.Bools.{same_test}
use Rattle.lent.proofs.Taken.{box_facts, box_holds}
use Rattle.picture.specs.declared.Size.{Size}
use Rattle.picture.specs.Sizes.{stride_of, rows_of}
use Rattle.view.specs.declared.View.{View}
use Rattle.rects.specs.Rects.{rect_at_of, nth, taken, area}
use Rattle.apply_main.specs.Main.{main_luma}
use Rattle.rects.proofs.Rects.{taken_facts, taken_holds, area_facts}
use Rattle.apply_main.proofs.Main.{main_luma_facts, main_luma_holds}
use Rattle.agree_law.specs.Agrees.{in_rect, inside, widened}

-- at a pixel of the picture, of a view that is as large, luma is taken exactly inside the rectangles
pub luma_inside : (z : Size) (w : View) (rects : List ℕ) (r c : ℕ) → z.width ≤ w.width → z.height ≤ w.height → r < z.height → c < z.width
    → taken (main_luma z w) rects r c ≡ inside rects r c
unfolding nth
luma_inside z w rects r c wide high hr hc =
    same_test (taken (main_luma z w) rects r c) (inside rects r c)
    (λ e. let f = taken_facts (main_luma z w) rects r c e in
    let q = rect_at_of rects f.0 in
    let g = main_luma_facts z w q.left q.top q.right q.bottom r c f.1.1 in
    taken_holds in_rect rects r c f.0 f.1.0 (box_holds _ _ _ _ r c g.0 (omega arith) g.3 (omega arith)))
    (λ e. let f = taken_facts in_rect rects r c e in
    let q = rect_at_of rects f.0 in
    let g = box_facts q.top q.bottom q.left q.right r c f.1.1 in
    taken_holds (main_luma z w) rects r c f.0 f.1.0
    (main_luma_holds z w q.left q.top q.right q.bottom r c g.0 (omega arith) (omega arith) g.2 (omega arith)))

-- of two views that are as large as the padded planes, the same luma is taken
pub luma_wider : (z : Size) (w w' : View) (rects : List ℕ) (r c : ℕ) → stride_of z ≤ w.width → stride_of z ≤ w'.width → rows_of z ≤ w.height → rows_of z ≤ w'.height
    → taken (main_luma z w) rects r c ≡ taken (main_luma z w') rects r c
unfolding nth
luma_wider z w w' rects r c wide wide' high high' = same_test _ _ (one w w' wide' high') (one w' w wide high)
  where
    one : (w w' : View) → stride_of z ≤ w'.width → rows_of z ≤ w'.height → taken (main_luma z w) rects r c ≡ true → taken (main_luma z w') rects r c ≡ true
    one w w' wide high e =
        let f = taken_facts (main_luma z w) rects r c e in
        let q = rect_at_of rects f.0 in
        let g = main_luma_facts z w q.left q.top q.right q.bottom r c f.1.1 in
        taken_holds (main_luma z w') rects r c f.0 f.1.0
        (main_luma_holds z w' q.left q.top q.right q.bottom r c g.0 g.1 (omega arith) g.3 (omega arith))

-- a widened rectangle lies in the padded planes
pub widened-within : (z : Size) (rects : List ℕ) (r c : ℕ) → widened z rects r c ≡ true → (r < rows_of z) × (c < stride_of z)
unfolding nth
widened-within z rects r c e =
    let f = taken_facts (area z) rects r c e in
    let q = rect_at_of rects f.0 in
    let g = area_facts z q.left q.top q.right q.bottom r c f.1.1 in
    (omega arith, omega arith)
