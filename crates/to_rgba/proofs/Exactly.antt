-- The table of numbers, "given exactly when", for both conversions: lines from the laws of refusals. Assumes nothing.
use Prim.Native.Nat.{ℕ, ◌≤◌, ◌<◌}
use native.Mathlib.Omega.{arith}
use mathlib.Core.Path.{◌≡◌, sym, ◌∙◌}
use mathlib.Core.Bool.{true, false}
use mathlib.Core.Logic.Iff
use mathlib.Core.Logic.{◌↔◌, true-and, and-true}
use mathlib.Core.List.{[], ◌∷◌}
use lib.Dec.{ltb}
use Rattle.lent.proofs.Exactly.{below, not-below}
use Rattle.lent.proofs.Refusal.{refusal_exactly, refusal_none, refusal_first}
use Rattle.picture.specs.declared.Size.{Size}
use Rattle.picture.specs.Sizes.{planes_short}
use Rattle.view.specs.declared.View.{View}
use Rattle.view.specs.View.{narrow, plane_short, view_number_of}
use Rattle.view.proofs.Exactly.{view_0_exactly}
use Rattle.to_rgba.specs.Picture.{to_rgba_number_of}
use Rattle.to_rgba.specs.View.{view_to_rgba_number_of}

module _ (z : Size) (count ny nu nv nout : ℕ) where
  pub rgba_1_exactly : (to_rgba_number_of z count ny nu nv nout ≡ 1) ↔ (planes_short z ny nu nv ≡ true)
  unfolding to_rgba_number_of
  rgba_1_exactly = Iff.trans (refusal_exactly (planes_short z ny nu nv) 1 ((ltb nout count, 6) ∷ []) tt (λ e. omega arith) [] tt) true-and

  pub rgba_6_exactly : (to_rgba_number_of z count ny nu nv nout ≡ 6) ↔ ((planes_short z ny nu nv ≡ false) × (nout < count))
  unfolding to_rgba_number_of
  rgba_6_exactly = Iff.trans (refusal_exactly (ltb nout count) 6 [] tt (λ e. omega arith) ((planes_short z ny nu nv, 1) ∷ []) tt) (Iff.and and-true (below nout count))

  pub rgba_0_exactly : (to_rgba_number_of z count ny nu nv nout ≡ 0) ↔ ((planes_short z ny nu nv ≡ false) × (count ≤ nout))
  unfolding to_rgba_number_of
  rgba_0_exactly = Iff.trans (refusal_none ((planes_short z ny nu nv, 1) ∷ (ltb nout count, 6) ∷ []) tt) (Iff.and Iff.rfl (Iff.trans and-true (not-below nout count)))

-- the numbers of a view, and then 6
module _ (w : View) (count ny nu nv nout : ℕ) where
  pub view_rgba_3_exactly : (view_to_rgba_number_of w count ny nu nv nout ≡ 3) ↔ (narrow w ≡ true)
  unfolding view_to_rgba_number_of
  view_rgba_3_exactly = Iff.trans (refusal_exactly (narrow w) 3 ((plane_short w ny nu nv, 4) ∷ (ltb nout count, 6) ∷ []) tt (λ e. omega arith) [] tt) true-and

  pub view_rgba_4_exactly : (view_to_rgba_number_of w count ny nu nv nout ≡ 4) ↔ ((narrow w ≡ false) × (plane_short w ny nu nv ≡ true))
  unfolding view_to_rgba_number_of
  view_rgba_4_exactly = Iff.trans (refusal_exactly (plane_short w ny nu nv) 4 ((ltb nout count, 6) ∷ []) tt (λ e. omega arith) ((narrow w, 3) ∷ []) tt) (Iff.and and-true Iff.rfl)

  accepted : ((narrow w ≡ false) × (plane_short w ny nu nv ≡ false)) ↔ (view_number_of w ny nu nv ≡ 0)
  accepted = Iff.symm (view_0_exactly w ny nu nv)

  pub view_rgba_6_exactly : (view_to_rgba_number_of w count ny nu nv nout ≡ 6) ↔ ((view_number_of w ny nu nv ≡ 0) × (nout < count))
  unfolding view_to_rgba_number_of
  view_rgba_6_exactly = Iff.trans (refusal_exactly (ltb nout count) 6 [] tt (λ e. omega arith) ((narrow w, 3) ∷ (plane_short w ny nu nv, 4) ∷ []) tt) (Iff.and (Iff.trans (Iff.and Iff.rfl and-true) accepted) (below nout count))

  pub view_rgba_0_exactly : (view_to_rgba_number_of w count ny nu nv nout ≡ 0) ↔ ((view_number_of w ny nu nv ≡ 0) × (count ≤ nout))
  unfolding view_to_rgba_number_of
  view_rgba_0_exactly = (
    λ e. let f = (refusal_none ((narrow w, 3) ∷ (plane_short w ny nu nv, 4) ∷ (ltb nout count, 6) ∷ []) tt).0 e in
        (accepted.0 (f.0, f.1.0), (not-below nout count).0 f.1.1.0),
    λ h. let f = accepted.1 h.0 in
        (refusal_none ((narrow w, 3) ∷ (plane_short w ny nu nv, 4) ∷ (ltb nout count, 6) ∷ []) tt).1 (f.0, (f.1, ((not-below nout count).1 h.1, tt))),
  )

  -- a view that is refused on its own is refused with that number
  pub view_refused : {number : ℕ} → number ≡ view_number_of w ny nu nv → (number ≡ 0 → ⊥) → number ≡ view_to_rgba_number_of w count ny nu nv nout
  unfolding view_to_rgba_number_of view_number_of
  view_refused is some = is ∙ sym (refusal_first ((narrow w, 3) ∷ (plane_short w ny nu nv, 4) ∷ []) ((ltb nout count, 6) ∷ []) (λ z. some (is ∙ z)))
