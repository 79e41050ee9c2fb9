-- What a caller leans on: Y is never touched, nor a chroma sample at an even row and an even column; a second time changes nothing; order
-- and repetition have no effect; what takes nothing changes nothing; bytes of the view that are not visible reach no plane.
-- Assumes nothing.
use Prim.Native.Nat.{ℕ, ◌+◌, ◌*◌, ◌/◌, ◌%◌, ◌<◌, ◌≤◌}
use native.Mathlib.Omega.{arith}
use mathlib.Core.Path.{◌≡◌, sym, ap, ◌∙◌}
use mathlib.Core.Bool.{true, false, ◌&&◌}
use mathlib.Core.Logic.{inl, ⊎_elim}
use mathlib.Core.List.{List, [], ◌∷◌}
use lib.ListN.{length, get_or}
use Rattle.lent.specs.declared.Answer.{Answer}
use Rattle.lent.specs.Outcome.{answer_of, lent_after}
use Rattle.lent.proofs.Bools.{never_true, cond-false}
use Rattle.lent.proofs.Outcome.{outcome_unique}
use Rattle.lent.proofs.Painted.{painted_at, painted_ext}
use Rattle.picture.specs.declared.Size.{Size}
use Rattle.picture.specs.Sizes.{stride_of, rows_of}
use Rattle.view.specs.declared.View.{View}
use Rattle.view.specs.Alike.{Alike}
use Rattle.layout.specs.declared.Chroma.{Chroma}
use Rattle.layout.specs.declared.Chroma.TheVariants.{CU, CV}
use Rattle.layout.specs.declared.Layout.{Layout}
use Rattle.layout.specs.Maps.{Part, PY, PU, PV, Spot, place, maps}
use Rattle.layout.specs.Exists.{side, present, fed}
use Rattle.layout.proofs.Exists.{left_out_facts, present_facts}
use Rattle.layout.proofs.Pairs.{fed_facts}
use Rattle.rects.specs.Rects.{rect_at_of, nth, taken, chroma_block_area_of, in_area, NoArea}
use Rattle.rects.proofs.Rects.{AllIn, taken_facts, list_same, list_none, list_empty}
use Rattle.rects.specs.Number.{lent_number_of}
use Rattle.apply_auxiliary_rows.specs.Rows.{part_sample, view_sample, auxiliary_source}
use Rattle.apply_auxiliary_rows.proofs.Columns.{painted_join}
use Rattle.apply_auxiliary.specs.Auxiliary.{auxiliary_in, auxiliary_rule, auxiliary_after, auxiliary_buffers_of, ApplyAuxiliaryViewOutcome}
use Rattle.apply_auxiliary.proofs.Taken.{auxiliary_in_facts}

-- ---- how a call ends

module _ (t : Layout) (z : Size) (w : View) (rects vy vu vv y u v : List ℕ) where
  pub auxiliary_unique : (r q : Answer) (rs qs : List (List ℕ)) → ApplyAuxiliaryViewOutcome t z w rects vy vu vv y u v r rs → ApplyAuxiliaryViewOutcome t z w rects vy vu vv y u v q qs → (r ≡ q) × (rs ≡ qs)
  auxiliary_unique = outcome_unique (λ (n : ℕ). answer_of n 0) (λ n. auxiliary_buffers_of n t z w rects vy vu vv y u v) (lent_number_of z w rects vy vu vv y u v)

  -- luma is never touched by an auxiliary view, refused or done
  pub auxiliary_luma : (r : Answer) (y' u' v' : List ℕ) → ApplyAuxiliaryViewOutcome t z w rects vy vu vv y u v r (y' ∷ u' ∷ v' ∷ []) → y' ≡ y
  auxiliary_luma r y' u' v' o = let e = o.buffers in cc

-- ---- what is taken

module _ (t : Layout) (z : Size) (w : View) where
  pub taken_fed : (rects : List ℕ) (r c : ℕ) → taken (auxiliary_rule t z w) rects r c ≡ true → fed t w.width w.height r c ≡ true
  unfolding nth
  taken_fed rects r c e = let f = taken_facts (auxiliary_rule t z w) rects r c e in (auxiliary_in_facts t w _ r c f.1.1).4

  pub even_even_left : (rects : List ℕ) (r c : ℕ) → r % 2 ≡ 0 → c % 2 ≡ 0 → taken (auxiliary_rule t z w) rects r c ≡ false
  even_even_left rects r c er ec =
      never_true _ (λ e. let f = fed_facts t w.width w.height r c (taken_fed rects r c e) in ⊎_elim (λ o. omega arith) (λ o. omega arith) (left_out_facts r c f.0))

module _ (t : Layout) (k : Chroma) (z : Size) (w : View) (vy vu vv plane : List ℕ) where
  -- no auxiliary view touches an even-row, even-column chroma sample
  pub even_even_kept : (rects : List ℕ) (r c : ℕ) → rows_of z * stride_of z ≤ length plane → r < rows_of z → c < stride_of z → r % 2 ≡ 0 → c % 2 ≡ 0
      → get_or (auxiliary_after t k z w rects vy vu vv plane) (r * stride_of z + c) 0 ≡ get_or plane (r * stride_of z + c) 0
  even_even_kept rects r c fits hr hc er ec =
      painted_at _ _ (taken (auxiliary_rule t z w) rects) (auxiliary_source t k w vy vu vv) plane r c hr hc fits ∙ cond-false _ _ _ (even_even_left t z w rects r c er ec)

  -- the same view applied twice leaves what it left once
  pub auxiliary_twice : (rects : List ℕ) → auxiliary_after t k z w rects vy vu vv (auxiliary_after t k z w rects vy vu vv plane) ≡ auxiliary_after t k z w rects vy vu vv plane
  auxiliary_twice rects = painted_join _ _ _ _ _ _ plane (λ r c e. e) (λ r c e. e) (λ r c e. inl e)

  -- order and repetition have no effect
  pub auxiliary_same_list : (ps qs : List ℕ) → AllIn ps qs → AllIn qs ps → auxiliary_after t k z w ps vy vu vv plane ≡ auxiliary_after t k z w qs vy vu vv plane
  auxiliary_same_list = list_same _ _ (auxiliary_rule t z w) _ plane

  pub auxiliary_empty_list : auxiliary_after t k z w [] vy vu vv plane ≡ plane
  auxiliary_empty_list = sym (list_empty _ _ (auxiliary_rule t z w) _ plane)

  -- a rectangle whose widened area is empty changes nothing: nor does a list of such
  pub auxiliary_empty_areas : (rects : List ℕ) → ((i : ℕ) → i < length rects / 4 → let q = rect_at_of rects i in NoArea z q.left q.top q.right q.bottom)
      → auxiliary_after t k z w rects vy vu vv plane ≡ plane
  unfolding nth
  auxiliary_empty_areas rects empty =
      sym (list_none _ _ (auxiliary_rule t z w) _ plane rects
      (λ i r c lt e. let f = auxiliary_in_facts t w _ r c e in ⊎_elim (λ h. omega arith) (λ h. omega arith) (empty i lt)))

-- ---- views that are alike

module _ (t : Layout) {w w' : View} {vy vu vv vy' vu' vv' : List ℕ} (alike : Alike w vy vu vv w' vy' vu' vv') where
  -- a spot that exists has one sample
  spot_alike : (p : Part) (r c : ℕ) → (r < side p w.height) × (c < side p w.width) → part_sample w vy vu vv p r c ≡ part_sample w' vy' vu' vv' p r c
  spot_alike PY r c h = alike.y_same r c h.0 h.1
  spot_alike PU r c h = alike.u_same r c h.0 h.1
  spot_alike PV r c h = alike.v_same r c h.0 h.1

  at_spot_lem : (s : Spot) → present w.width w.height s ≡ true → view_sample w vy vu vv s ≡ view_sample w' vy' vu' vv' s
  at_spot_lem s e = spot_alike s.part s.row s.col (present_facts w.width w.height s e)

  source_alike : (k : Chroma) (r c : ℕ) → fed t w.width w.height r c ≡ true → auxiliary_source t k w vy vu vv r c ≡ auxiliary_source t k w' vy' vu' vv' r c
  unfolding auxiliary_source
  source_alike k r c e = at_spot_lem ((maps t).spot (place k r c)) (here k)
    where
      here : (k : Chroma) → present w.width w.height ((maps t).spot (place k r c)) ≡ true
      here CU = (fed_facts t w.width w.height r c e).1
      here CV = (fed_facts t w.width w.height r c e).2

  taken_alike : (z : Size) (rects : List ℕ) (r c : ℕ) → taken (auxiliary_rule t z w) rects r c ≡ taken (auxiliary_rule t z w') rects r c
  unfolding auxiliary_in
  taken_alike z rects r c = λ i. taken (λ left top right bottom r c. in_area (chroma_block_area_of z left top right bottom) r c && fed t (alike.width i) (alike.height i) r c) rects r c

  -- views that agree on the visible samples leave the same planes
  pub auxiliary_alike : (k : Chroma) (z : Size) (rects plane : List ℕ) → auxiliary_after t k z w rects vy vu vv plane ≡ auxiliary_after t k z w' rects vy' vu' vv' plane
  auxiliary_alike k z rects plane =
      painted_ext _ _ _ _ _ _ plane (λ r c hr hc. taken_alike z rects r c) (λ r c hr hc e. source_alike k r c (taken_fed t z w rects r c e))

  -- and accepted calls end alike
  pub auxiliary_ends_alike : (z : Size) (rects y u v : List ℕ) (r r' : Answer) (rs rs' : List (List ℕ))
      → lent_number_of z w rects vy vu vv y u v ≡ 0 → lent_number_of z w' rects vy' vu' vv' y u v ≡ 0
      → ApplyAuxiliaryViewOutcome t z w rects vy vu vv y u v r rs → ApplyAuxiliaryViewOutcome t z w' rects vy' vu' vv' y u v r' rs' → (r ≡ r') × (rs ≡ rs')
  auxiliary_ends_alike z rects y u v r r' rs rs' n n' o o' =
      let same = n ∙ sym n' in (
        o.answer ∙ ap (λ (m : ℕ). answer_of m 0) same ∙ sym o'.answer,
        o.buffers
            ∙ (λ i. y ∷ lent_after (same i) u (auxiliary_alike CU z rects u i) ∷ lent_after (same i) v (auxiliary_alike CV z rects v i) ∷ [])
            ∙ sym o'.buffers,
      )
