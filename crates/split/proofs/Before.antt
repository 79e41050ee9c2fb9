-- A split whose views are as wide as the stride is what it was before V2 had rules: as V1, as V2 by the 16 rule, and by the 32 rule where
-- the stride is a multiple of 32. A view of it has no column past the stride, so what is seen there is the picture's own.
-- Assumes nothing.
use Prim.Native.Nat.{ℕ, ◌+◌, ◌*◌, ◌/◌, ◌%◌, ◌<◌}
use native.Mathlib.Omega.{arith}
use mathlib.Core.Path.{◌≡◌, refl, sym, ap, ◌∙◌, subst}
use mathlib.Core.Bool.{Bool, true, false, ◌||◌}
use mathlib.Core.Logic.{◌↔◌, ⊎_elim}
use mathlib.Core.List.{List, [], ◌∷◌, ◌++◌}
use Rattle.lent.specs.Outcome.{lent_after}
use Rattle.lent.specs.Paint.{painted, whole}
use Rattle.lent.specs.Sizes.{round_up}
use Rattle.lent.proofs.Painted.{painted_ext}
use Rattle.picture.specs.declared.Size.{Size}
use Rattle.picture.specs.Sizes.{stride_of, rows_of}
use Rattle.layout.specs.declared.Way.{Way}
use Rattle.layout.specs.declared.Way.TheVariants.{AsV1, AsV2}
use Rattle.layout.specs.declared.WidthRule.TheVariants.{To16, To32}
use Rattle.layout.specs.Maps.{Part, PY, PU, PV, spot, maps, maps_v1, maps_v2}
use Rattle.layout.specs.Exists.{side}
use Rattle.layout.proofs.Exists.{parity, present_holds, carried_facts}
use Rattle.layout.proofs.Fed.{maps-fed}
pub use Rattle.split_views.proofs.Spots.{seen_inside}
use Rattle.split.specs.declared.number.PlaneLengths.{PlaneLengths}
use Rattle.split.specs.declared.number.Views.{Views}
use Rattle.split.specs.Split.{Planes, lengths_of, split_layout_of, split_wide_of, main_sample, pick_chroma, auxiliary_sample, too_large, view_short, view_after, split_number_of, split_answer_of, split_buffers_of, SplitOutcome}
use Rattle.split.specs.Before.{main_before, auxiliary_before, number_before, answer_before, view_before, SplitBefore}

again : (x y : Bool) → (x || y || x) ≡ (x || y)
again true y = refl
again false true = refl
again false false = refl

module _ (t : Way) (z : Size) (same : split_wide_of t z ≡ stride_of z) where
  number_before_lem : (p m a : PlaneLengths) → split_number_of t z p m a ≡ number_before z p m a
  unfolding split_number_of too_large view_short
  number_before_lem p m a = rw (same, again) refl

  view_before_lem : (n : ℕ) (s s' : Part → ℕ → ℕ → ℕ) (o : Planes) → ((q : Part) (r c : ℕ) → r < side q (rows_of z) → c < side q (stride_of z) → s q r c ≡ s' q r c)
      → view_after n (split_wide_of t z) z s o ≡ view_before n z s' o
  view_before_lem n s s' o is =
      let plane : (q : Part) (w h : ℕ) (xs : List ℕ) → ((r c : ℕ) → r < h → c < w → s q r c ≡ s' q r c) → painted w h whole (s q) xs ≡ painted w h whole (s' q) xs
      = λ q w h xs f. painted_ext w h whole whole (s q) (s' q) xs (λ r c hr hc. refl) (λ r c hr hc e. f r c hr hc) in
      ap (λ (w : ℕ). view_after n w z s o) same
      ∙ (λ i. lent_after n o.y (plane PY (stride_of z) (rows_of z) o.y (is PY) i)
      ∷ lent_after n o.u (plane PU (stride_of z / 2) (rows_of z / 2) o.u (λ r c hr hc. is PU r c (omega arith) (omega arith)) i)
      ∷ lent_after n o.v (plane PV (stride_of z / 2) (rows_of z / 2) o.v (λ r c hr hc. is PV r c (omega arith) (omega arith)) i)
      ∷ [])

  main_own : (p : Planes) (q : Part) (r c : ℕ) → r < side q (rows_of z) → c < side q (stride_of z) → main_sample (stride_of z) p q r c ≡ main_before (stride_of z) p q r c
  main_own p PY r c hr hc = sym (seen_inside 0 p.y (stride_of z) r c hc)
  main_own p PU r c hr hc = sym (seen_inside 128 p.u (stride_of z) (2 * r) (2 * c) (omega arith))
  main_own p PV r c hr hc = sym (seen_inside 128 p.v (stride_of z) (2 * r) (2 * c) (omega arith))

  -- a spot of the view holds a place of the padded planes
  auxiliary_own : (p : Planes) (q : Part) (r c : ℕ) → r < side q (rows_of z) → c < side q (stride_of z)
      → auxiliary_sample (split_layout_of t z) (stride_of z) p.u p.v q r c ≡ auxiliary_before (maps (split_layout_of t z)) (stride_of z) p.u p.v q r c
  unfolding auxiliary_sample
  auxiliary_own p q r c hr hc =
      let m = maps (split_layout_of t z) in
      let fed = maps-fed t z.width (stride_of z) (rows_of z) (omega arith) (omega arith) in
      let l = m.place (spot q r c) in
      let there = present_holds (split_wide_of t z) (rows_of z) (spot q r c) hr (subst (λ (w : ℕ). c < side q w) (sym same) hc) in
      let inside = (carried_facts (split_wide_of t z) (rows_of z) l (fed.returns (spot q r c) there)).1 in
      sym (seen_inside 128 (pick_chroma l.plane p.u p.v) (stride_of z) l.row l.col (omega (arith, same, inside)))

  pub split_before : (p m a : Planes) (r : Views) (rs : List (List ℕ)) → SplitOutcome t z p m a r rs ↔ SplitBefore (maps (split_layout_of t z)) z p m a r rs
  unfolding split_buffers_of
  split_before p m a r rs =
      let n = number_before_lem (lengths_of p) (lengths_of m) (lengths_of a) in
      let answer : split_answer_of t z (split_number_of t z (lengths_of p) (lengths_of m) (lengths_of a)) ≡ answer_before z (number_before z (lengths_of p) (lengths_of m) (lengths_of a))
      = ap (split_answer_of t z) n ∙ rw same refl in
      let buffers : split_buffers_of t z p m a
      ≡ (view_before (number_before z (lengths_of p) (lengths_of m) (lengths_of a)) z (main_before (stride_of z) p) m
      ++ view_before (number_before z (lengths_of p) (lengths_of m) (lengths_of a)) z (auxiliary_before (maps (split_layout_of t z)) (stride_of z) p.u p.v) a)
      = λ i. view_before_lem (n i) (main_sample (stride_of z) p) (main_before (stride_of z) p) m (main_own p) i
      ++ view_before_lem (n i) (auxiliary_sample (split_layout_of t z) (stride_of z) p.u p.v) (auxiliary_before (maps (split_layout_of t z)) (stride_of z) p.u p.v) a (auxiliary_own p) i in
      (λ o. record { answer = o.answer ∙ answer; buffers = o.buffers ∙ buffers }, λ o. record { answer = o.answer ∙ sym answer; buffers = o.buffers ∙ sym buffers })

-- as V1, and as V2 by the 16 rule, a split is what it was
pub split_v1 : (z : Size) (p m a : Planes) (r : Views) (rs : List (List ℕ)) → SplitOutcome AsV1 z p m a r rs ↔ SplitBefore maps_v1 z p m a r rs
split_v1 z = split_before AsV1 z refl

pub split_16 : (z : Size) (p m a : Planes) (r : Views) (rs : List (List ℕ)) → SplitOutcome (AsV2 To16) z p m a r rs ↔ SplitBefore (maps_v2 (round_up 16 (stride_of z))) z p m a r rs
split_16 z = split_before (AsV2 To16) z (omega arith)

in_pairs : (q : ℕ) → q * 16 % 32 ≡ 0 → q % 2 ≡ 0
in_pairs q e = ⊎_elim (λ o. let is : q * 16 ≡ q / 2 * 32 + 16 = omega (arith, o) in let some : (q / 2 * 32 + 16) % 32 ≡ 16 = omega arith in omega (arith, rw is at e, some)) (λ h. h) (parity q)

-- by the 32 rule it is that too, where the stride is a multiple of 32: the rules differ nowhere else
pub split_32_same : (z : Size) → stride_of z % 32 ≡ 0 → (p m a : Planes) (r : Views) (rs : List (List ℕ)) → SplitOutcome (AsV2 To32) z p m a r rs ↔ SplitBefore (maps_v2 (stride_of z)) z p m a r rs
split_32_same z even p m a r rs =
    let pairs : (z.width + 15) / 16 % 2 ≡ 0 = in_pairs ((z.width + 15) / 16) even in
    let half : (z.width + 31) / 32 ≡ (z.width + 15) / 16 / 2 = omega (arith, pairs) in
    let wide : split_wide_of (AsV2 To32) z ≡ stride_of z = omega (arith, pairs, half) in
    subst (λ (w : ℕ). SplitOutcome (AsV2 To32) z p m a r rs ↔ SplitBefore (maps_v2 w) z p m a r rs) wide (split_before (AsV2 To32) z wide p m a r rs)
