-- The table of numbers, "given exactly when", for the apply calls, in the order 1, 7, 3, 4; and what an accepted call has.
-- Assumes nothing.
use Prim.Native.Nat.{ℕ}
use native.Mathlib.Omega.{arith}
use mathlib.Core.Path.{◌≡◌}
use mathlib.Core.Bool.{true, false}
use mathlib.Core.Logic.Iff
use mathlib.Core.Logic.{◌↔◌, true-and, and-true}
use mathlib.Core.List.{[], ◌∷◌}
use Rattle.lent.proofs.Refusal.{refusal_exactly, refusal_none}
use Rattle.picture.specs.declared.Size.{Size}
use Rattle.picture.specs.Sizes.{planes_short}
use Rattle.picture.proofs.Sizes.{planes_fit}
use Rattle.view.specs.declared.View.{View}
use Rattle.view.specs.View.{narrow, plane_short}
use Rattle.view.proofs.Exactly.{view_0_exactly, accepted_fits}
use Rattle.rects.specs.Number.{not_fours, apply_number_of, ApplyAccepted}

module _ (z : Size) (w : View) (ny nu nv nr my mu mv : ℕ) where
  pub apply_0_exactly : (apply_number_of z w ny nu nv nr my mu mv ≡ 0)
      ↔ ((planes_short z ny nu nv ≡ false) × ((not_fours nr ≡ false) × ((narrow w ≡ false) × (plane_short w my mu mv ≡ false))))
  unfolding apply_number_of
  apply_0_exactly =
      Iff.trans (refusal_none ((planes_short z ny nu nv, 1) ∷ (not_fours nr, 7) ∷ (narrow w, 3) ∷ (plane_short w my mu mv, 4) ∷ []) tt)
      (Iff.and Iff.rfl (Iff.and Iff.rfl (Iff.and Iff.rfl and-true)))

  pub apply_1_exactly : (apply_number_of z w ny nu nv nr my mu mv ≡ 1) ↔ (planes_short z ny nu nv ≡ true)
  unfolding apply_number_of
  apply_1_exactly =
      Iff.trans (refusal_exactly (planes_short z ny nu nv) 1 ((not_fours nr, 7) ∷ (narrow w, 3) ∷ (plane_short w my mu mv, 4) ∷ []) tt (λ e. omega arith) [] tt) true-and

  pub apply_7_exactly : (apply_number_of z w ny nu nv nr my mu mv ≡ 7) ↔ ((planes_short z ny nu nv ≡ false) × (not_fours nr ≡ true))
  unfolding apply_number_of
  apply_7_exactly =
      Iff.trans (refusal_exactly (not_fours nr) 7 ((narrow w, 3) ∷ (plane_short w my mu mv, 4) ∷ []) tt (λ e. omega arith) ((planes_short z ny nu nv, 1) ∷ []) tt)
      (Iff.and and-true Iff.rfl)

  pub apply_3_exactly : (apply_number_of z w ny nu nv nr my mu mv ≡ 3)
      ↔ (((planes_short z ny nu nv ≡ false) × (not_fours nr ≡ false)) × (narrow w ≡ true))
  unfolding apply_number_of
  apply_3_exactly =
      Iff.trans (refusal_exactly (narrow w) 3 ((plane_short w my mu mv, 4) ∷ []) tt (λ e. omega arith) ((planes_short z ny nu nv, 1) ∷ (not_fours nr, 7) ∷ []) tt)
      (Iff.and (Iff.and Iff.rfl and-true) Iff.rfl)

  pub apply_4_exactly : (apply_number_of z w ny nu nv nr my mu mv ≡ 4)
      ↔ (((planes_short z ny nu nv ≡ false) × ((not_fours nr ≡ false) × (narrow w ≡ false))) × (plane_short w my mu mv ≡ true))
  unfolding apply_number_of
  apply_4_exactly =
      Iff.trans (refusal_exactly (plane_short w my mu mv) 4 [] tt (λ e. omega arith) ((planes_short z ny nu nv, 1) ∷ (not_fours nr, 7) ∷ (narrow w, 3) ∷ []) tt)
      (Iff.and (Iff.and Iff.rfl (Iff.and Iff.rfl and-true)) Iff.rfl)

  -- what the calls read of an accepted call
  pub apply_fits : apply_number_of z w ny nu nv nr my mu mv ≡ 0 → ApplyAccepted z w ny nu nv my mu mv
  apply_fits e =
      let t = apply_0_exactly.0 e in
      record { planes = planes_fit z ny nu nv t.0; view = accepted_fits w my mu mv ((view_0_exactly w my mu mv).1 t.1.1) }
