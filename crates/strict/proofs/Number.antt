-- The table of numbers, "given exactly when", for the strict apply calls, in plain inequalities and in the order 1, 7, 12, 3, 4; a list that is
-- sound has the number of the clipping call.
-- Assumes nothing.
use Prim.Native.Nat.{ℕ, ◌*◌, ◌%◌, ◌<◌, ◌≤◌}
use native.Mathlib.Omega.{arith}
use mathlib.Core.Path.{◌≡◌, sym, ◌∙◌}
use mathlib.Core.Bool.{false}
use mathlib.Core.Logic.Iff
use mathlib.Core.Logic.{◌↔◌, ◌⊎◌, true-and, and-true}
use mathlib.Core.List.{List, [], ◌∷◌}
use lib.ListN.{length}
use Rattle.lent.specs.Sizes.{half_up}
use Rattle.lent.proofs.Refusal.{refusal_exactly, refusal_none}
use Rattle.picture.specs.declared.Size.{Size}
use Rattle.picture.specs.Sizes.{stride_of, rows_of}
use Rattle.view.specs.declared.View.{View}
use Rattle.view.specs.View.{narrow, plane_short, ViewFits}
use Rattle.view.proofs.Exactly.{narrow_exactly, narrow_none, plane_short_exactly, view_0_exactly, view_0_plain}
use Rattle.rects.specs.Number.{not_fours}
use Rattle.map.specs.Map.{across_of, down_of, picture_short, PictureFits}
use Rattle.map.proofs.Sizes.{picture_short_exactly, picture_fit_exactly}
use Rattle.map_apply.specs.Calls.{map_apply_number_of}
use Rattle.map_apply.proofs.Number.{fours_exactly, not_fours_exactly}
use Rattle.strict.specs.Sound.{unsound, AllSound, SomeFaulty}
use Rattle.strict.specs.Calls.{strict_number_of}
use Rattle.strict.proofs.Faults.{unsound_exactly, sound_exactly}

module _ (z : Size) (w : View) (rects : List ℕ) (ny nu nv nm my mu mv : ℕ) where
  pub strict_1_exactly : (strict_number_of z w rects ny nu nv nm my mu mv ≡ 1)
      ↔ ((((ny < rows_of z * stride_of z) ⊎ (nu < rows_of z * stride_of z)) ⊎ (nv < rows_of z * stride_of z)) ⊎ (nm < down_of z * across_of z))
  unfolding strict_number_of
  strict_1_exactly =
      Iff.trans (refusal_exactly (picture_short z ny nu nv nm) 1 ((not_fours (length rects), 7) ∷ (unsound z rects, 12) ∷ (narrow w, 3) ∷ (plane_short w my mu mv, 4) ∷ []) tt (λ e. omega arith) [] tt)
      (Iff.trans true-and (picture_short_exactly z ny nu nv nm))

  pub strict_7_exactly : (strict_number_of z w rects ny nu nv nm my mu mv ≡ 7) ↔ (PictureFits z ny nu nv nm × (length rects % 4 ≡ 0 → ⊥))
  unfolding strict_number_of
  strict_7_exactly =
      Iff.trans (refusal_exactly (not_fours (length rects)) 7 ((unsound z rects, 12) ∷ (narrow w, 3) ∷ (plane_short w my mu mv, 4) ∷ []) tt (λ e. omega arith) ((picture_short z ny nu nv nm, 1) ∷ []) tt)
      (Iff.and (Iff.trans and-true (picture_fit_exactly z ny nu nv nm)) (not_fours_exactly (length rects)))

  pub strict_12_exactly : (strict_number_of z w rects ny nu nv nm my mu mv ≡ 12)
      ↔ ((PictureFits z ny nu nv nm × (length rects % 4 ≡ 0)) × SomeFaulty z rects)
  unfolding strict_number_of
  strict_12_exactly =
      Iff.trans (refusal_exactly (unsound z rects) 12 ((narrow w, 3) ∷ (plane_short w my mu mv, 4) ∷ []) tt (λ e. omega arith) ((picture_short z ny nu nv nm, 1) ∷ (not_fours (length rects), 7) ∷ []) tt)
      (Iff.and (Iff.and (picture_fit_exactly z ny nu nv nm) (Iff.trans and-true (fours_exactly (length rects)))) (unsound_exactly z rects))

  pub strict_3_exactly : (strict_number_of z w rects ny nu nv nm my mu mv ≡ 3)
      ↔ ((PictureFits z ny nu nv nm × ((length rects % 4 ≡ 0) × AllSound z rects)) × ((w.luma_stride < w.width) ⊎ (w.chroma_stride < half_up w.width)))
  unfolding strict_number_of
  strict_3_exactly =
      Iff.trans (refusal_exactly (narrow w) 3 ((plane_short w my mu mv, 4) ∷ []) tt (λ e. omega arith) ((picture_short z ny nu nv nm, 1) ∷ (not_fours (length rects), 7) ∷ (unsound z rects, 12) ∷ []) tt)
      (Iff.and (Iff.and (picture_fit_exactly z ny nu nv nm) (Iff.and (fours_exactly (length rects)) (Iff.trans and-true (sound_exactly z rects)))) (narrow_exactly w))

  pub strict_4_exactly : (strict_number_of z w rects ny nu nv nm my mu mv ≡ 4)
      ↔ ((PictureFits z ny nu nv nm × ((length rects % 4 ≡ 0) × (AllSound z rects × ((w.width ≤ w.luma_stride) × (half_up w.width ≤ w.chroma_stride)))))
      × (((my < w.height * w.luma_stride) ⊎ (mu < half_up w.height * w.chroma_stride)) ⊎ (mv < half_up w.height * w.chroma_stride)))
  unfolding strict_number_of
  strict_4_exactly =
      Iff.trans (refusal_exactly (plane_short w my mu mv) 4 [] tt (λ e. omega arith) ((picture_short z ny nu nv nm, 1) ∷ (not_fours (length rects), 7) ∷ (unsound z rects, 12) ∷ (narrow w, 3) ∷ []) tt)
      (Iff.and
      (Iff.and (picture_fit_exactly z ny nu nv nm) (Iff.and (fours_exactly (length rects)) (Iff.and (sound_exactly z rects) (Iff.trans and-true (narrow_none w)))))
      (plane_short_exactly w my mu mv))

  pub strict_0_exactly : (strict_number_of z w rects ny nu nv nm my mu mv ≡ 0)
      ↔ (PictureFits z ny nu nv nm × ((length rects % 4 ≡ 0) × (AllSound z rects × ViewFits w my mu mv)))
  unfolding strict_number_of
  strict_0_exactly =
      Iff.trans (refusal_none ((picture_short z ny nu nv nm, 1) ∷ (not_fours (length rects), 7) ∷ (unsound z rects, 12) ∷ (narrow w, 3) ∷ (plane_short w my mu mv, 4) ∷ []) tt)
      (Iff.and (picture_fit_exactly z ny nu nv nm)
      (Iff.and (fours_exactly (length rects))
      (Iff.and (sound_exactly z rects)
      (Iff.trans (Iff.and Iff.rfl and-true) (Iff.trans ((view_0_exactly w my mu mv).1, (view_0_exactly w my mu mv).0) (view_0_plain w my mu mv))))))

  -- a list that is sound has the clipping call's number, refusals included
  pub strict_same : unsound z rects ≡ false → strict_number_of z w rects ny nu nv nm my mu mv ≡ map_apply_number_of z w ny nu nv nm (length rects) my mu mv
  unfolding strict_number_of map_apply_number_of
  strict_same sound = rw sound

  -- and one that a strict call accepts is sound, so that the clipping call accepts it too
  pub accepted_sound : strict_number_of z w rects ny nu nv nm my mu mv ≡ 0 → unsound z rects ≡ false
  accepted_sound none = (sound_exactly z rects).1 (strict_0_exactly.0 none).1.1.0

  pub strict_0 : strict_number_of z w rects ny nu nv nm my mu mv ≡ 0 → map_apply_number_of z w ny nu nv nm (length rects) my mu mv ≡ 0
  strict_0 none = sym (strict_same (accepted_sound none)) ∙ none
