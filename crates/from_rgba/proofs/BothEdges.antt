-- The two edge rules side by side: where both calls agree, that no padding reaches the luma of a pixel of the picture, and that to fill the edge is
-- to repeat the input's last column and row. By either matrix.
-- Assumes nothing.
use Prim.Native.Nat.{ℕ, ◌+◌, ◌*◌, ◌-◌, ◌%◌, ◌<◌, min}
use native.Mathlib.Nat.{add-zero}
use native.Mathlib.Omega.{arith}
use mathlib.Core.Path.{◌≡◌, refl, sym, ap, ◌∙◌}
use mathlib.Core.Bool.{cond}
use mathlib.Core.List.{List, [], ◌∷◌}
use lib.ListN.{length, get_or}
use Rattle.lent.specs.Outcome.{lent_after}
use Rattle.lent.specs.Paint.{painted, whole}
use Rattle.lent.specs.Samples.{sample}
use Rattle.lent.specs.declared.Answer.{Answer}
use Rattle.lent.proofs.Bools.{cond-true}
use Rattle.lent.proofs.Painted.{painted_at, painted_ext}
use Rattle.colour.specs.Limited.{forward_by}
use Rattle.colour.specs.declared.Matrix.{Matrix}
use Rattle.colour.specs.declared.Yuv.{Yuv}
use Rattle.picture.specs.declared.Size.{Size}
use Rattle.picture.specs.Sizes.{stride_of, rows_of, plane_of}
use Rattle.picture.specs.New.{fresh_luma}
use Rattle.from_rgba.specs.declared.edges.Edge.{Edge}
use Rattle.from_rgba.specs.declared.edges.Edge.TheVariants.{Fresh, Filled}
use Rattle.from_rgba.specs.Averaged.{averaged}
use Rattle.from_rgba.specs.Edges.{filled}
use Rattle.from_rgba.specs.Rows.{colour_at}
use Rattle.from_rgba.specs.FromRgba.{converted_of, in_picture, luma_plane, chroma_u_plane, chroma_v_plane, with_edge, Repeated, from_number_of, from_buffers_of, FromRgbaOutcome}
use Rattle.from_rgba.proofs.Padding.{inside_holds}
use Rattle.from_rgba.proofs.Blocks.{averaged_local}
use Rattle.from_rgba.proofs.EdgeLaws.{edged-inside}
use Rattle.from_rgba.proofs.FromRgbaOutcome.{average_local, from_0_exactly}

-- ---- planes that agree place by place

module _ (z : Size) (xs : List ℕ) (p q : ℕ → ℕ → ℕ) (same : (r c : ℕ) → r < rows_of z → c < stride_of z → p r c ≡ q r c) where
  plane_same : plane_of z p xs ≡ plane_of z q xs
  plane_same = painted_ext (stride_of z) (rows_of z) whole whole p q xs (λ r c hr hc. refl) (λ r c hr hc t. same r c hr hc)

  average_same : plane_of z (averaged p) xs ≡ plane_of z (averaged q) xs
  average_same =
      painted_ext (stride_of z) (rows_of z) whole whole (averaged p) (averaged q) xs (λ r c hr hc. refl) (λ r c hr hc t. average_local z p q same r c hr hc)

-- ---- where both sides are multiples of 16 there is no padding, and both calls agree

pub edges_agree : (m : Matrix) (px : List ℕ) (z : Size) (y u v : List ℕ) → z.width % 16 ≡ 0 → z.height % 16 ≡ 0 → from_buffers_of m Filled px z y u v ≡ from_buffers_of m Fresh px z y u v
unfolding from_buffers_of
edges_agree m px z y u v wide high =
    let n = from_number_of z (length px) (length y) (length u) (length v) in
    λ i.
    lent_after n y (plane_same z y _ _ (own (luma_plane m z px)) i)
    ∷ lent_after n u (average_same z u _ _ (own (chroma_u_plane m z px)) i)
    ∷ lent_after n v (average_same z v _ _ (own (chroma_v_plane m z px)) i)
    ∷ []
  where
    own : (p : ℕ → ℕ → ℕ) (r c : ℕ) → r < rows_of z → c < stride_of z → with_edge Filled z p r c ≡ p r c
    own p r c hr hc = edged-inside Filled z.width z.height p r c (omega arith) (omega arith)

-- ---- where both sides are even no block of the picture has padding in it, and its samples agree, in each plane

pub even_sides_agree : (z : Size) (p : ℕ → ℕ → ℕ) → z.width % 2 ≡ 0 → z.height % 2 ≡ 0
    → (r c : ℕ) → r < z.height → c < z.width → averaged (with_edge Filled z p) r c ≡ averaged (with_edge Fresh z p) r c
even_sides_agree z p wide high =
    averaged_local z.width z.height wide high (with_edge Filled z p) p (λ r c hr hc. edged-inside Filled z.width z.height p r c hr hc)

-- ---- a sample of the picture is its pixel's own before the average, whatever the padding; so is the luma that is left

pub sample_own : (e : Edge) (z : Size) (s pad : ℕ → ℕ → ℕ) (r c : ℕ) → r < z.height → c < z.width
    → with_edge e z (λ q k. cond (in_picture z q k) (s q k) (pad q k)) r c ≡ s r c
sample_own e z s pad r c hr hc =
    edged-inside e z.width z.height _ r c hr hc ∙ cond-true (in_picture z r c) (s r c) (pad r c) (inside_holds z.width z.height r c hr hc)

pub luma_own : (m : Matrix) (e : Edge) (px : List ℕ) (z : Size) (y u v y' u' v' : List ℕ) (a : Answer) → FromRgbaOutcome m e px z y u v a (y' ∷ u' ∷ v' ∷ []) → a.number ≡ 0
    → (r c : ℕ) → r < z.height → c < z.width → sample y' (stride_of z) r c ≡ (converted_of m px z r c).y
unfolding from_buffers_of sample
luma_own m e px z y u v y' u' v' a ends none r c hr hc =
    let number : from_number_of z (length px) (length y) (length u) (length v) ≡ 0 = sym (ap (λ (b : Answer). b.number) ends.answer) ∙ none in
    let fits = ((from_0_exactly z (length px) (length y) (length u) (length v)).0 number).1.y_fits in
    ap (λ (bs : List (List ℕ)). get_or (first bs) (r * stride_of z + c) 0) ends.buffers
    ∙ ap (λ (n : ℕ). get_or (lent_after n y (plane_of z (with_edge e z (luma_plane m z px)) y)) (r * stride_of z + c) 0) number
    ∙ painted_at (stride_of z) (rows_of z) whole (with_edge e z (luma_plane m z px)) y r c (omega arith) (omega arith) fits
    ∙ sample_own e z (λ q k. (converted_of m px z q k).y) fresh_luma r c hr hc
  where
    first : List (List ℕ) → List ℕ
    first [] = []
    first (x ∷ xs) = x

-- ---- to fill the edge is to repeat the last column and the last row of the input

module _ (m : Matrix) (px qx : List ℕ) (z z' : Size) (again : Repeated z px z' qx) where
  pixel : (r c : ℕ) → r < rows_of z → c < stride_of z → converted_of m qx z' r c ≡ converted_of m px z (min r (z.height - 1)) (min c (z.width - 1))
  unfolding colour_at
  pixel r c hr hc =
      λ i. forward_by m (red i) (again.pixel r c 1 hr hc (omega arith) i) (again.pixel r c 2 hr hc (omega arith) i)
    where
      red : get_or qx (4 * (r * z'.width + c)) 0 ≡ get_or px (4 * (min r (z.height - 1) * z.width + min c (z.width - 1))) 0
      red = simp add-zero at (again.pixel r c 0 hr hc (omega arith))

  -- a sample of the filled plane is a pixel's, and so is one of the repeated picture, which has no padding
  sample_same : (pick : Yuv → ℕ) (pad r c : ℕ) → r < rows_of z → c < stride_of z
      → with_edge Filled z (λ q k. cond (in_picture z q k) (pick (converted_of m px z q k)) pad) r c ≡ cond (in_picture z' r c) (pick (converted_of m qx z' r c)) pad
  unfolding filled
  sample_same pick pad r c hr hc =
      cond-true (in_picture z (min r (z.height - 1)) (min c (z.width - 1))) _ _ (inside_holds z.width z.height _ _ (omega arith) (omega arith))
      ∙ ap pick (sym (pixel r c hr hc))
      ∙ sym (cond-true (in_picture z' r c) _ _ (inside_holds z'.width z'.height r c (omega (arith, again.high)) (omega (arith, again.wide))))

  pub filled_repeated : (y u v : List ℕ) → from_number_of z (length px) (length y) (length u) (length v) ≡ from_number_of z' (length qx) (length y) (length u) (length v)
      → from_buffers_of m Filled px z y u v ≡ from_buffers_of m Fresh qx z' y u v
  unfolding from_buffers_of
  filled_repeated y u v number =
      let w : stride_of z ≡ stride_of z' = omega (arith, again.wide) in
      let h : rows_of z ≡ rows_of z' = omega (arith, again.high) in
      let over : (s : ℕ → ℕ → ℕ) (xs : List ℕ) → plane_of z s xs ≡ plane_of z' s xs = λ s xs i. painted (w i) (h i) whole s xs in
      λ i.
      lent_after (number i) y ((plane_same z y _ _ (sample_same (λ p. p.y) 0) ∙ over (luma_plane m z' qx) y) i)
      ∷ lent_after (number i) u ((average_same z u _ _ (sample_same (λ p. p.u) 128) ∙ over (averaged (chroma_u_plane m z' qx)) u) i)
      ∷ lent_after (number i) v ((average_same z v _ _ (sample_same (λ p. p.v) 128) ∙ over (averaged (chroma_v_plane m z' qx)) v) i)
      ∷ []
