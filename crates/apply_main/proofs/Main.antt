-- What the main view's rules take, as facts, and as boxes of rows: the code's box is the rule's.
-- Assumes nothing.
use Prim.Native.Nat.{ℕ, ◌*◌, ◌/◌, ◌<◌, ◌≤◌, min}
use native.Mathlib.Omega.{arith}
use mathlib.Core.Path.{◌≡◌, refl, sym, ◌∙◌}
use mathlib.Core.Bool.{true, ◌&&◌}
use mathlib.Core.List.{List, [], ◌∷◌}
use lib.Dec.{ltb}
use borrow.Author.Tests.{lt-ltb, ltb-true}
use Rattle.lent.specs.Paint.{painted, box, up_to}
use Rattle.lent.specs.Sizes.{round_up, half_up}
use Rattle.lent.proofs.Bools.{same_test, both, both_left, both_right}
use Rattle.lent.proofs.Painted.{painted_ext}
use Rattle.lent.proofs.Taken.{box_facts, box_holds}
use Rattle.picture.specs.declared.Size.{Size}
use Rattle.picture.specs.Sizes.{stride_of, rows_of}
use Rattle.view.specs.declared.View.{View}
use Rattle.view.specs.declared.Plane.{Plane}
use Rattle.apply_main.specs.Rows.{MainRowsFit}
use Rattle.apply_main.proofs.RowLaws.{up_to_facts, up_to_holds}
use Rattle.rects.specs.Rects.{area}
use Rattle.rects.specs.Number.{lent_number_of}
use Rattle.apply_main.specs.Main.{main_luma, main_chroma, luma_after, chroma_after, ApplyMainViewOutcome}
use Rattle.apply_main.specs.Fits.{RectFits}
use Rattle.lent.proofs.Ends.{answer_none, lent_refused, lent_done}
use Rattle.rects.proofs.Rects.{area_facts, area_holds}

module _ (z : Size) (w : View) (left top right bottom : ℕ) where
  -- where the columns and the rows end, in the code's order
  abbrev pub luma_end : ℕ
  luma_end = min (min right (round_up 2 (min right z.width))) w.width

  abbrev pub chroma_end : ℕ
  chroma_end = min (round_up 2 (min right z.width)) w.width

  abbrev pub chroma_below : ℕ
  chroma_below = min (round_up 2 (min bottom z.height)) w.height

  pub main_luma_facts : (r c : ℕ) → main_luma z w left top right bottom r c ≡ true
      → (top ≤ r) × (r < min bottom z.height) × (r < w.height) × (left ≤ c) × (c < luma_end)
  unfolding main_luma
  main_luma_facts r c e =
      let u = up_to_facts _ w.height r c e in
      let f = box_facts _ _ _ _ r c u.0 in
      (f.0, f.1, u.1, f.2, f.3)

  pub main_luma_holds : (r c : ℕ) → top ≤ r → r < min bottom z.height → r < w.height → left ≤ c → c < luma_end
      → main_luma z w left top right bottom r c ≡ true
  unfolding main_luma
  main_luma_holds r c t b v l h = up_to_holds _ w.height r c (box_holds _ _ _ _ r c t b l h) v

  pub main_chroma_facts : (r c : ℕ) → main_chroma z w left top right bottom r c ≡ true
      → (top / 2 * 2 ≤ r) × (r < chroma_below) × (left / 2 * 2 ≤ c) × (c < chroma_end)
  unfolding main_chroma
  main_chroma_facts r c e =
      let a = both_left (area z left top right bottom r c && ltb r w.height) _ e in
      let f = area_facts z left top right bottom r c (both_left (area z left top right bottom r c) _ a) in
      let vr = ltb-true r w.height (both_right (area z left top right bottom r c) _ a) in
      let vc = ltb-true c w.width (both_right (area z left top right bottom r c && ltb r w.height) _ e) in
      (f.0, omega arith, f.2, omega arith)

  pub main_chroma_holds : (r c : ℕ) → top / 2 * 2 ≤ r → r < chroma_below → left / 2 * 2 ≤ c → c < chroma_end
      → main_chroma z w left top right bottom r c ≡ true
  unfolding main_chroma
  main_chroma_holds r c t b l h =
      both (area z left top right bottom r c && ltb r w.height) _
      (both (area z left top right bottom r c) _ (area_holds z left top right bottom r c t (omega arith) l (omega arith)) (lt-ltb r w.height (omega arith)))
      (lt-ltb c w.width (omega arith))

  -- the chroma rule is a box, whose rows the view's chroma planes all have
  pub chroma_box : (s : ℕ → ℕ → ℕ) (xs : List ℕ)
      → painted (stride_of z) (rows_of z) (up_to (box (top / 2 * 2) chroma_below (left / 2 * 2) chroma_end) (2 * half_up w.height)) s xs
      ≡ painted (stride_of z) (rows_of z) (main_chroma z w left top right bottom) s xs
  chroma_box s xs =
      painted_ext _ _ _ _ s s xs
      (λ r c hr hc. same_test _ _
      (λ e. let f = box_facts _ _ _ _ r c (up_to_facts _ _ r c e).0 in main_chroma_holds r c f.0 f.1 f.2 f.3)
      (λ e. let f = main_chroma_facts r c e in up_to_holds _ _ r c (box_holds _ _ _ _ r c f.0 f.1 f.2 f.3) (omega arith)))
      (λ r c hr hc e. refl)

-- what the rows ask follows from what the rectangle has; p is the plane that the code worked out, and q the view's
pub rows_ask : (z : Size) {p q : Plane} {n m below first end to : ℕ} → p ≡ q → RectFits z q n m → below ≤ rows_of z → first ≤ end → end ≤ stride_of z → to ≤ q.width
    → MainRowsFit z p n m below first end to
rows_ask z is f low ordered inside seen =
    rw is
    (record {
      plane_fits = f.plane_fits;
      view_fits = f.view_fits;
      rows_inside = low;
      ordered = ordered;
      inside = inside;
      seen = omega (arith, f.wide);
    })

-- ---- how the call ends

module _ (z : Size) (w : View) (rects vy vu vv y u v : List ℕ) where
  pub main_refused : {n : ℕ} → n ≡ lent_number_of z w rects vy vu vv y u v → (n ≡ 0 → ⊥)
      → ApplyMainViewOutcome z w rects vy vu vv y u v (record { number = n; count = 0 }) (y ∷ u ∷ v ∷ [])
  main_refused is f =
      let not-zero : lent_number_of z w rects vy vu vv y u v ≡ 0 → ⊥ = λ e. f (is ∙ e) in
      record {
        answer = answer_none is;
        buffers = λ i. lent_refused _ y (luma_after z w rects vy y) not-zero i ∷ lent_refused _ u (chroma_after z w rects vu u) not-zero i ∷ lent_refused _ v (chroma_after z w rects vv v) not-zero i ∷ [];
      }

  pub main_done : {y' u' v' : List ℕ} → lent_number_of z w rects vy vu vv y u v ≡ 0 → y' ≡ luma_after z w rects vy y → u' ≡ chroma_after z w rects vu u → v' ≡ chroma_after z w rects vv v
      → ApplyMainViewOutcome z w rects vy vu vv y u v (record { number = 0; count = 0 }) (y' ∷ u' ∷ v' ∷ [])
  main_done is a b c = record {
    answer = answer_none (sym is);
    buffers = λ i. (a ∙ lent_done _ y (luma_after z w rects vy y) is) i ∷ (b ∙ lent_done _ u (chroma_after z w rects vu u) is) i ∷ (c ∙ lent_done _ v (chroma_after z w rects vv v) is) i ∷ [];
  }
