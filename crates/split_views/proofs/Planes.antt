-- The chroma planes as they are written are layout's, of either layout and for every W. Assumes nothing.
use Prim.Native.Nat.{ℕ, ◌+◌, ◌*◌, ◌/◌}
use native.Mathlib.Nat.{add-zero}
use mathlib.Core.Path.{◌≡◌, refl, ap}
use mathlib.Core.List.{List}
use Rattle.lent.specs.Paint.{painted, whole}
use Rattle.layout.specs.Maps.{shift, part_of, half_of, into}
use Rattle.layout.specs.declared.Chroma.{Chroma}
use Rattle.layout.specs.declared.Chroma.TheVariants.{CU, CV}
use Rattle.layout.specs.declared.Layout.{Layout}
use Rattle.layout.specs.declared.Layout.TheVariants.{V1, V2}
use Rattle.split_rows.proofs.Rows.{same_plane}
use Rattle.split_views.specs.Views.{seen, pick_chroma, auxiliary_sample, v2_chroma_sample}
use Rattle.split_views.specs.Chroma.{chroma_sample}

module _ (stride : ℕ) (u v : List ℕ) where
  chroma_at_lem : (t : Layout) (k : Chroma) (r c : ℕ) → chroma_sample t stride (pick_chroma k u v) u v (shift k 2) r c ≡ auxiliary_sample t stride u v (part_of k) r c
  unfolding auxiliary_sample chroma_sample v2_chroma_sample
  chroma_at_lem V1 CU r c = refl
  chroma_at_lem V1 CV r c = refl
  chroma_at_lem (V2 W) CU r c = ap (λ (q : ℕ). seen 128 (pick_chroma (half_of (W / 4) c) u v) stride (2 * r + 1) q) (add-zero (4 * into (W / 4) c))
  chroma_at_lem (V2 W) CV r c = refl

  pub chroma_plane : (t : Layout) (k : Chroma) (w h : ℕ) (xs : List ℕ) → painted w h whole (chroma_sample t stride (pick_chroma k u v) u v (shift k 2)) xs ≡ painted w h whole (auxiliary_sample t stride u v (part_of k)) xs
  chroma_plane t k w h xs = same_plane w h _ _ xs (chroma_at_lem t k)
