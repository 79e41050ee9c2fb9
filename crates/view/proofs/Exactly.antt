-- The table of numbers, "given exactly when", for a view: each number by its test, and then by plain inequalities. 3 comes before 4.
-- Assumes nothing.
use Prim.Native.Nat.{ℕ, ◌*◌, ◌≤◌, ◌<◌}
use native.Mathlib.Omega.{arith}
use mathlib.Core.Path.{◌≡◌}
use mathlib.Core.Bool.{true, false}
use mathlib.Core.Logic.Iff
use mathlib.Core.Logic.{◌↔◌, ◌⊎◌, true-and, and-true}
use mathlib.Core.List.{[], ◌∷◌}
use Rattle.lent.specs.Sizes.{half_up}
use Rattle.lent.proofs.Exactly.{below, not-below, or_exactly, nor_exactly}
use Rattle.lent.proofs.Refusal.{refusal_exactly, refusal_none}
use Rattle.view.specs.declared.View.{View}
use Rattle.view.specs.View.{luma_of, chroma_of, narrow, plane_short, view_number_of, PlaneFits, ViewFits}

module _ (w : View) where
  pub narrow_exactly : (narrow w ≡ true) ↔ ((w.luma_stride < w.width) ⊎ (w.chroma_stride < half_up w.width))
  unfolding narrow
  narrow_exactly = or_exactly _ _ (below w.luma_stride w.width) (below w.chroma_stride (half_up w.width))

  pub narrow_none : (narrow w ≡ false) ↔ ((w.width ≤ w.luma_stride) × (half_up w.width ≤ w.chroma_stride))
  unfolding narrow
  narrow_none = nor_exactly _ _ (not-below w.luma_stride w.width) (not-below w.chroma_stride (half_up w.width))

module _ (w : View) (ny nu nv : ℕ) where
  pub plane_short_exactly : (plane_short w ny nu nv ≡ true)
      ↔ (((ny < w.height * w.luma_stride) ⊎ (nu < half_up w.height * w.chroma_stride)) ⊎ (nv < half_up w.height * w.chroma_stride))
  unfolding plane_short
  plane_short_exactly = or_exactly _ _ (or_exactly _ _ (below ny _) (below nu _)) (below nv _)

  pub plane_short_none : (plane_short w ny nu nv ≡ false)
      ↔ (((w.height * w.luma_stride ≤ ny) × (half_up w.height * w.chroma_stride ≤ nu)) × (half_up w.height * w.chroma_stride ≤ nv))
  unfolding plane_short
  plane_short_none = nor_exactly _ _ (nor_exactly _ _ (not-below ny _) (not-below nu _)) (not-below nv _)

  -- ---- the numbers

  pub view_0_exactly : (view_number_of w ny nu nv ≡ 0) ↔ ((narrow w ≡ false) × (plane_short w ny nu nv ≡ false))
  unfolding view_number_of
  view_0_exactly = Iff.trans (refusal_none ((narrow w, 3) ∷ (plane_short w ny nu nv, 4) ∷ []) tt) (Iff.and Iff.rfl and-true)

  pub view_3_exactly : (view_number_of w ny nu nv ≡ 3) ↔ (narrow w ≡ true)
  unfolding view_number_of
  view_3_exactly = Iff.trans (refusal_exactly (narrow w) 3 ((plane_short w ny nu nv, 4) ∷ []) tt (λ e. omega arith) [] tt) true-and

  pub view_4_exactly : (view_number_of w ny nu nv ≡ 4) ↔ ((narrow w ≡ false) × (plane_short w ny nu nv ≡ true))
  unfolding view_number_of
  view_4_exactly = Iff.trans (refusal_exactly (plane_short w ny nu nv) 4 [] tt (λ e. omega arith) ((narrow w, 3) ∷ []) tt) (Iff.and and-true Iff.rfl)

  -- ---- the same in plain inequalities

  pub view_0_plain : (view_number_of w ny nu nv ≡ 0) ↔ ViewFits w ny nu nv
  view_0_plain = (
    λ e. let t = view_0_exactly.0 e in
        let s = (narrow_none w).0 t.0 in
        let l = plane_short_none.0 t.1 in
        record { luma_wide = s.0; chroma_wide = s.1; y_long = l.0.0; u_long = l.0.1; v_long = l.1 },
    λ f. view_0_exactly.1 ((narrow_none w).1 (f.luma_wide, f.chroma_wide), plane_short_none.1 ((f.y_long, f.u_long), f.v_long)),
  )

  pub view_3_plain : (view_number_of w ny nu nv ≡ 3) ↔ ((w.luma_stride < w.width) ⊎ (w.chroma_stride < half_up w.width))
  view_3_plain = Iff.trans view_3_exactly (narrow_exactly w)

  pub view_4_plain : (view_number_of w ny nu nv ≡ 4)
      ↔ (((w.width ≤ w.luma_stride) × (half_up w.width ≤ w.chroma_stride))
      × (((ny < w.height * w.luma_stride) ⊎ (nu < half_up w.height * w.chroma_stride)) ⊎ (nv < half_up w.height * w.chroma_stride)))
  view_4_plain = Iff.trans view_4_exactly (Iff.and (narrow_none w) plane_short_exactly)

  -- what the crates above read of an accepted view
  pub accepted_fits : view_number_of w ny nu nv ≡ 0 → ViewFits w ny nu nv
  accepted_fits = view_0_plain.0

  -- and of one of its planes
  pub luma_fits : view_number_of w ny nu nv ≡ 0 → PlaneFits (luma_of w) ny
  luma_fits e = let f = accepted_fits e in record { wide = f.luma_wide; long = f.y_long }

  pub u_fits : view_number_of w ny nu nv ≡ 0 → PlaneFits (chroma_of w) nu
  u_fits e = let f = accepted_fits e in record { wide = f.chroma_wide; long = f.u_long }

  pub v_fits : view_number_of w ny nu nv ≡ 0 → PlaneFits (chroma_of w) nv
  v_fits e = let f = accepted_fits e in record { wide = f.chroma_wide; long = f.v_long }
