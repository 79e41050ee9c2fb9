-- What the main view does and does not do, for a reader: empty areas, empty rectangles with an odd left or top edge, views that look alike, and
-- the one way in which the call ends. That order and repetition of a list have no effect, and that an empty list changes nothing, are
-- `List-same` and `list_empty` of `rects`, at either rule.
-- Assumes nothing.
use Prim.Native.Nat.{ℕ, ◌+◌, ◌*◌, ◌/◌, ◌%◌, ◌<◌, ◌≤◌, min}
use native.Mathlib.Omega.{arith}
use mathlib.Core.Path.{◌≡◌, sym, ap, ◌∙◌}
use mathlib.Core.Bool.{true, false, ◌&&◌}
use mathlib.Core.Logic.{⊎_elim}
use mathlib.Core.List.{List, [], ◌∷◌}
use Rattle.lent.specs.declared.Answer.{Answer}
use lib.Dec.{ltb}
use Rattle.lent.specs.Outcome.{answer_of, lent_after}
use Rattle.lent.specs.Paint.{box, up_to}
use Rattle.lent.specs.Sizes.{round_up, half_up}
use Rattle.lent.proofs.Bools.{never_true}
use Rattle.lent.proofs.Outcome.{outcome_unique}
use Rattle.lent.proofs.Painted.{painted_none, painted_ext}
use Rattle.picture.specs.declared.Size.{Size}
use Rattle.view.specs.declared.View.{View}
use Rattle.view.specs.View.{chroma_of}
use Rattle.view.specs.Alike.{SameSamples, Alike}
use Rattle.rects.specs.Rects.{Rule, rect_at_of, nth, area, NoArea, taken}
use Rattle.rects.specs.Number.{lent_number_of}
use Rattle.apply_main.specs.Main.{main_luma, main_chroma, halved, luma_after, chroma_after, main_buffers_of, ApplyMainViewOutcome}
use Rattle.rects.proofs.Rects.{taken_facts, list_one}
use Rattle.apply_main.proofs.Main.{main_luma_facts, main_chroma_facts, main_chroma_holds, chroma_below, chroma_end}

module _ (z : Size) (w : View) (left top right bottom : ℕ) where
  pub no_area_luma : NoArea z left top right bottom → (r c : ℕ) → main_luma z w left top right bottom r c ≡ false
  no_area_luma none r c =
      never_true _ (λ e. let f = main_luma_facts z w left top right bottom r c e in ⊎_elim (λ h. omega arith) (λ h. omega arith) none)

  pub no_area_chroma : NoArea z left top right bottom → (r c : ℕ) → main_chroma z w left top right bottom r c ≡ false
  no_area_chroma none r c =
      never_true _ (λ e. let f = main_chroma_facts z w left top right bottom r c e in ⊎_elim (λ h. omega arith) (λ h. omega arith) none)

  -- a rectangle whose widened area is empty changes nothing
  pub no_area_nothing : NoArea z left top right bottom → (vy y : List ℕ) (samples plane : List ℕ)
      → (luma_after z w (left ∷ top ∷ right ∷ bottom ∷ []) vy y ≡ y) × (chroma_after z w (left ∷ top ∷ right ∷ bottom ∷ []) samples plane ≡ plane)
  no_area_nothing none vy y samples plane = (
    list_one _ _ (main_luma z w) _ y left top right bottom ∙ sym (painted_none _ _ _ _ y (λ r c hr hc. no_area_luma none r c)),
    list_one _ _ (main_chroma z w) _ plane left top right bottom ∙ sym (painted_none _ _ _ _ plane (λ r c hr hc. no_area_chroma none r c)),
  )

-- an empty rectangle takes no luma; inside the picture and with an odd left edge it takes its blocks' chroma
module _ (z : Size) (w : View) (left top bottom : ℕ) where
  pub empty_no_luma : (r c : ℕ) → main_luma z w left top left bottom r c ≡ false
  empty_no_luma r c = never_true _ (λ e. let f = main_luma_facts z w left top left bottom r c e in omega arith)

  pub odd_empty_chroma : left % 2 ≡ 1 → left ≤ z.width → (r c : ℕ) → top / 2 * 2 ≤ r → r < chroma_below z w left top left bottom → left ≤ c + 1 → c ≤ left → c < w.width
      → main_chroma z w left top left bottom r c ≡ true
  odd_empty_chroma odd inside r c t b l h v = main_chroma_holds z w left top left bottom r c t b (omega arith) (omega arith)

  -- and nothing else
  pub odd_empty_only : left % 2 ≡ 1 → left ≤ z.width → (r c : ℕ) → main_chroma z w left top left bottom r c ≡ true → (left ≤ c + 1) × (c ≤ left)
  odd_empty_only odd inside r c e = let f = main_chroma_facts z w left top left bottom r c e in (omega arith, omega arith)

-- the same of an empty rectangle whose top edge is odd
module _ (z : Size) (w : View) (left top right : ℕ) where
  pub empty_rows_no_luma : (r c : ℕ) → main_luma z w left top right top r c ≡ false
  empty_rows_no_luma r c = never_true _ (λ e. let f = main_luma_facts z w left top right top r c e in omega arith)

  pub odd_empty_rows_chroma : top % 2 ≡ 1 → top ≤ z.height → (r c : ℕ) → top ≤ r + 1 → r ≤ top → r < w.height → left / 2 * 2 ≤ c → c < chroma_end z w left top right top
      → main_chroma z w left top right top r c ≡ true
  odd_empty_rows_chroma odd inside r c t b v l h = main_chroma_holds z w left top right top r c (omega arith) (omega arith) (omega arith) (omega arith)

  pub odd_empty_rows_only : top % 2 ≡ 1 → top ≤ z.height → (r c : ℕ) → main_chroma z w left top right top r c ≡ true → (top ≤ r + 1) × (r ≤ top)
  odd_empty_rows_only odd inside r c e = let f = main_chroma_facts z w left top right top r c e in (omega arith, omega arith)

-- ---- two accepted views of equal size that agree on the visible samples leave the same planes

module _ {w w' : View} {vy vu vv vy' vu' vv' : List ℕ} (alike : Alike w vy vu vv w' vy' vu' vv') (z : Size) (rects : List ℕ) where
  -- the rules look at width and height alone
  luma_rule : main_luma z w ≡ main_luma z w'
  unfolding main_luma
  luma_rule = λ i left top right bottom. up_to (box top (min bottom z.height) left (min (min right (round_up 2 (min right z.width))) (alike.width i))) (alike.height i)

  chroma_rule : main_chroma z w ≡ main_chroma z w'
  unfolding main_chroma
  chroma_rule = λ i left top right bottom r c. area z left top right bottom r c && ltb r (alike.height i) && ltb c (alike.width i)

  -- what is taken is visible
  luma_seen : (r c : ℕ) → taken (main_luma z w) rects r c ≡ true → (r < w.height) × (c < w.width)
  unfolding nth
  luma_seen r c e =
      let m = taken_facts (main_luma z w) rects r c e in
      let q = rect_at_of rects m.0 in
      let f = main_luma_facts z w q.left q.top q.right q.bottom r c m.1.1 in
      (f.2, omega arith)

  chroma_seen : (r c : ℕ) → taken (main_chroma z w) rects r c ≡ true → (r / 2 < half_up w.height) × (c / 2 < half_up w.width)
  unfolding nth
  chroma_seen r c e =
      let m = taken_facts (main_chroma z w) rects r c e in
      let q = rect_at_of rects m.0 in
      let f = main_chroma_facts z w q.left q.top q.right q.bottom r c m.1.1 in
      (omega arith, omega arith)

  pub luma_alike : (y : List ℕ) → luma_after z w rects vy y ≡ luma_after z w' rects vy' y
  luma_alike y =
      painted_ext _ _ _ _ _ _ y (λ r c hr hc. ap (λ (rule : Rule). taken rule rects r c) luma_rule)
      (λ r c hr hc e. let f = luma_seen r c e in alike.y_same r c f.0 f.1)

  -- of U or V
  pub chroma_alike : (samples samples' plane : List ℕ) → SameSamples (chroma_of w) samples (chroma_of w') samples' → chroma_after z w rects samples plane ≡ chroma_after z w' rects samples' plane
  unfolding halved
  chroma_alike samples samples' plane same =
      painted_ext _ _ _ _ _ _ plane (λ r c hr hc. ap (λ (rule : Rule). taken rule rects r c) chroma_rule)
      (λ r c hr hc e. let f = chroma_seen r c e in same (r / 2) (c / 2) f.0 f.1)

  pub main_alike : (y u v : List ℕ) → lent_number_of z w rects vy vu vv y u v ≡ 0 → lent_number_of z w' rects vy' vu' vv' y u v ≡ 0
      → main_buffers_of (lent_number_of z w rects vy vu vv y u v) z w rects vy vu vv y u v ≡ main_buffers_of (lent_number_of z w' rects vy' vu' vv' y u v) z w' rects vy' vu' vv' y u v
  main_alike y u v done done' =
      let same = done ∙ sym done' in
      λ i. lent_after (same i) y (luma_alike y i)
      ∷ lent_after (same i) u (chroma_alike vu vu' u alike.u_same i)
      ∷ lent_after (same i) v (chroma_alike vv vv' v alike.v_same i)
      ∷ []

-- ---- the call ends in one way

pub apply_main_view_unique : (z : Size) (w : View) (rects vy vu vv y u v : List ℕ) (r q : Answer) (rs qs : List (List ℕ))
    → ApplyMainViewOutcome z w rects vy vu vv y u v r rs → ApplyMainViewOutcome z w rects vy vu vv y u v q qs → (r ≡ q) × (rs ≡ qs)
apply_main_view_unique z w rects vy vu vv y u v r q rs qs a b =
    outcome_unique (λ (n : ℕ). answer_of n 0) (λ n. main_buffers_of n z w rects vy vu vv y u v) (lent_number_of z w rects vy vu vv y u v) r q rs qs a b
