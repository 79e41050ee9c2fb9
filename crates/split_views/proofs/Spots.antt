-- What a row of the auxiliary view holds, case by case: layout's map, V2's for every W.
-- Assumes nothing.
use Prim.Native.Nat.{ℕ, ◌+◌, ◌*◌, ◌-◌, ◌/◌, ◌%◌, ◌<◌, ◌≤◌}
use native.Mathlib.Nat.{le_trans}
use native.Mathlib.Omega.{arith}
use mathlib.Core.Path.{◌≡◌, refl, sym, ap, ◌∙◌}
use mathlib.Core.List.{List}
use borrow.Author.Tests.{lt-ltb, le-ltb}
use Rattle.lent.specs.Samples.{sample}
use Rattle.lent.proofs.Cells.{row_in}
use Rattle.layout.specs.Maps.{PY, shift}
use Rattle.layout.specs.declared.Chroma.{Chroma}
use Rattle.layout.specs.declared.Layout.TheVariants.{V1, V2}
use Rattle.layout.proofs.Halves.{half_at}
use Rattle.layout.proofs.Spots.{v2_luma_place}
pub use Rattle.split_rows.proofs.Rows.{seen_inside}
use Rattle.split_views.specs.Views.{seen, pick_chroma, seen_at, auxiliary_sample, v2_chroma_sample}
use Rattle.split_views.specs.Fits.{BlockFits}

-- a row of a macroblock that fits, fits
pub row_fits : (m stride row : ℕ) → BlockFits m stride row → row * stride + stride ≤ m
row_fits m stride row fits = le_trans (row_in stride (row - row % 16 + 16) row (omega arith)) fits

module _ (stride : ℕ) (u v : List ℕ) where
  -- V1: the rows of a macroblock, the first 8 and the others
  pub v1_u_row : (row c : ℕ) → row % 16 < 8 → c < stride → sample u stride (row - row % 16 + 2 * (row % 16) + 1) c ≡ auxiliary_sample V1 stride u v PY row c
  unfolding auxiliary_sample
  v1_u_row row c h inside =
      rw (lt-ltb (row % 16) 8 h) (ap (λ (r : ℕ). sample u stride r c) (omega arith) ∙ seen_inside 128 u stride (row - row % 16 + (2 * (row % 16 - 0) + 1)) c inside)

  pub v1_v_row : (row c : ℕ) → 8 ≤ row % 16 → c < stride → sample v stride (row - row % 16 + 2 * (row % 16 - 8) + 1) c ≡ auxiliary_sample V1 stride u v PY row c
  unfolding auxiliary_sample
  v1_v_row row c h inside =
      rw (le-ltb (row % 16) 8 h) (ap (λ (r : ℕ). sample v stride r c) (omega arith) ∙ seen_inside 128 v stride (row - row % 16 + (2 * (row % 16 - 8) + 1)) c inside)

  -- V2: j places into the half of k
  pub v2_luma_half : (W : ℕ) (k : Chroma) (r j : ℕ) → j < W / 2 → seen 128 (pick_chroma k u v) stride r (2 * j + 1) ≡ auxiliary_sample (V2 W) stride u v PY r (shift k (W / 2) + j)
  unfolding auxiliary_sample
  v2_luma_half W k r j h = sym (ap (seen_at stride u v) (v2_luma_place W k r j h))

  pub v2_chroma_half : (W : ℕ) (k : Chroma) (first r j : ℕ) → j < W / 4 → seen 128 (pick_chroma k u v) stride r (4 * j + first) ≡ v2_chroma_sample W stride u v first r (shift k (W / 4) + j)
  unfolding v2_chroma_sample
  v2_chroma_half W k first r j h =
      let half = half_at k (W / 4) j refl h in
      sym (λ i. seen 128 (pick_chroma (half.0 i) u v) stride r (4 * half.1 i + first))
