-- The table of numbers, "given exactly when", for the apply calls that are lent the map, in plain inequalities and in the order 1, 7, 3, 4; and
-- how the number is found: a short map is 1, and any other leaves the number to the call without it. Assumes nothing.
use Prim.Native.Nat.{ℕ, ◌*◌, ◌%◌, ◌<◌, ◌≤◌}
use native.Mathlib.Omega.{arith}
use mathlib.Core.Path.{◌≡◌, refl, ap}
use mathlib.Core.Bool.{Bool, true, false, not, true≢false, false≢true}
use mathlib.Core.Logic.Iff
use mathlib.Core.Logic.{◌↔◌, ◌⊎◌, true-and, and-true}
use mathlib.Core.List.{[], ◌∷◌}
use lib.Dec.{eqb}
use borrow.Author.Tests.{eq-eqb, eqb-true}
use Rattle.lent.specs.Refusal.{refusal}
use Rattle.lent.specs.Sizes.{half_up}
use Rattle.lent.proofs.Bools.{cond-true}
use Rattle.lent.proofs.Refusal.{refusal_exactly, refusal_none}
use Rattle.picture.specs.declared.Size.{Size}
use Rattle.picture.specs.Sizes.{stride_of, rows_of}
use Rattle.view.specs.declared.View.{View}
use Rattle.view.specs.View.{narrow, plane_short, ViewFits}
use Rattle.view.proofs.Exactly.{narrow_exactly, narrow_none, plane_short_exactly, view_0_exactly, view_0_plain}
use Rattle.rects.specs.Number.{not_fours, apply_number_of}
use Rattle.map.specs.Map.{across_of, down_of, map_short, picture_short, PictureFits}
use Rattle.map.proofs.Sizes.{picture_short_exactly, picture_fit_exactly, picture_map_short, picture_planes}
use Rattle.map_apply.specs.Calls.{map_apply_number_of}

-- ---- each test as a fact

not-true : (b : Bool) → (not b ≡ true) ↔ (b ≡ true → ⊥)
not-true true = (λ e. absurd (false≢true e), λ f. absurd (f refl))
not-true false = (λ e h. false≢true h, λ f. refl)

not-false : (b : Bool) → (not b ≡ false) ↔ (b ≡ true)
not-false true = (λ e. refl, λ e. refl)
not-false false = (λ e. absurd (true≢false e), λ e. absurd (false≢true e))

module _ (n : ℕ) where
  pub fours_exactly : (not_fours n ≡ false) ↔ (n % 4 ≡ 0)
  fours_exactly = Iff.trans (not-false (eqb (n % 4) 0)) (eqb-true (n % 4) 0, eq-eqb (n % 4) 0)

  pub not_fours_exactly : (not_fours n ≡ true) ↔ (n % 4 ≡ 0 → ⊥)
  not_fours_exactly = Iff.trans (not-true (eqb (n % 4) 0)) (λ f e. f (eq-eqb (n % 4) 0 e), λ f e. f (eqb-true (n % 4) 0 e))

-- ---- the numbers

module _ (z : Size) (w : View) (ny nu nv nm nr my mu mv : ℕ) where
  -- a short map is answered 1, whatever else is wrong
  pub map_short_1 : map_short z nm ≡ true → map_apply_number_of z w ny nu nv nm nr my mu mv ≡ 1
  unfolding map_apply_number_of
  map_short_1 e = cond-true _ _ _ (picture_map_short z ny nu nv nm e)

  -- where the map is there, the number is that of the call without it
  pub map_number : map_short z nm ≡ false → map_apply_number_of z w ny nu nv nm nr my mu mv ≡ apply_number_of z w ny nu nv nr my mu mv
  unfolding map_apply_number_of apply_number_of
  map_number e = ap (λ (b : Bool). refusal ((b, 1) ∷ (not_fours nr, 7) ∷ (narrow w, 3) ∷ (plane_short w my mu mv, 4) ∷ [])) (picture_planes z ny nu nv nm e)

  pub map_apply_1_exactly : (map_apply_number_of z w ny nu nv nm nr my mu mv ≡ 1)
      ↔ ((((ny < rows_of z * stride_of z) ⊎ (nu < rows_of z * stride_of z)) ⊎ (nv < rows_of z * stride_of z)) ⊎ (nm < down_of z * across_of z))
  unfolding map_apply_number_of
  map_apply_1_exactly =
      Iff.trans (refusal_exactly (picture_short z ny nu nv nm) 1 ((not_fours nr, 7) ∷ (narrow w, 3) ∷ (plane_short w my mu mv, 4) ∷ []) tt (λ e. omega arith) [] tt)
      (Iff.trans true-and (picture_short_exactly z ny nu nv nm))

  pub map_apply_7_exactly : (map_apply_number_of z w ny nu nv nm nr my mu mv ≡ 7) ↔ (PictureFits z ny nu nv nm × (nr % 4 ≡ 0 → ⊥))
  unfolding map_apply_number_of
  map_apply_7_exactly =
      Iff.trans (refusal_exactly (not_fours nr) 7 ((narrow w, 3) ∷ (plane_short w my mu mv, 4) ∷ []) tt (λ e. omega arith) ((picture_short z ny nu nv nm, 1) ∷ []) tt)
      (Iff.and (Iff.trans and-true (picture_fit_exactly z ny nu nv nm)) (not_fours_exactly nr))

  pub map_apply_3_exactly : (map_apply_number_of z w ny nu nv nm nr my mu mv ≡ 3)
      ↔ ((PictureFits z ny nu nv nm × (nr % 4 ≡ 0)) × ((w.luma_stride < w.width) ⊎ (w.chroma_stride < half_up w.width)))
  unfolding map_apply_number_of
  map_apply_3_exactly =
      Iff.trans (refusal_exactly (narrow w) 3 ((plane_short w my mu mv, 4) ∷ []) tt (λ e. omega arith) ((picture_short z ny nu nv nm, 1) ∷ (not_fours nr, 7) ∷ []) tt)
      (Iff.and (Iff.and (picture_fit_exactly z ny nu nv nm) (Iff.trans and-true (fours_exactly nr))) (narrow_exactly w))

  pub map_apply_4_exactly : (map_apply_number_of z w ny nu nv nm nr my mu mv ≡ 4)
      ↔ ((PictureFits z ny nu nv nm × ((nr % 4 ≡ 0) × ((w.width ≤ w.luma_stride) × (half_up w.width ≤ w.chroma_stride))))
      × (((my < w.height * w.luma_stride) ⊎ (mu < half_up w.height * w.chroma_stride)) ⊎ (mv < half_up w.height * w.chroma_stride)))
  unfolding map_apply_number_of
  map_apply_4_exactly =
      Iff.trans (refusal_exactly (plane_short w my mu mv) 4 [] tt (λ e. omega arith) ((picture_short z ny nu nv nm, 1) ∷ (not_fours nr, 7) ∷ (narrow w, 3) ∷ []) tt)
      (Iff.and (Iff.and (picture_fit_exactly z ny nu nv nm) (Iff.and (fours_exactly nr) (Iff.trans and-true (narrow_none w)))) (plane_short_exactly w my mu mv))

  pub map_apply_0_exactly : (map_apply_number_of z w ny nu nv nm nr my mu mv ≡ 0) ↔ (PictureFits z ny nu nv nm × ((nr % 4 ≡ 0) × ViewFits w my mu mv))
  unfolding map_apply_number_of
  map_apply_0_exactly =
      Iff.trans (refusal_none ((picture_short z ny nu nv nm, 1) ∷ (not_fours nr, 7) ∷ (narrow w, 3) ∷ (plane_short w my mu mv, 4) ∷ []) tt)
      (Iff.and (picture_fit_exactly z ny nu nv nm)
      (Iff.and (fours_exactly nr)
      (Iff.trans (Iff.and Iff.rfl and-true) (Iff.trans ((view_0_exactly w my mu mv).1, (view_0_exactly w my mu mv).0) (view_0_plain w my mu mv)))))
