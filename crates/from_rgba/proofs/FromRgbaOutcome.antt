-- When from RGBA refuses, what it leaves where it does not, that its outcome is the only one, and what of the input has no part in it. By either
-- matrix and either edge rule.
-- Assumes nothing.
use Prim.Native.Nat.{ℕ, ◌+◌, ◌*◌, ◌<◌, ◌≤◌}
use native.Mathlib.Nat.{add-zero}
use native.Mathlib.Omega.{arith}
use mathlib.Core.Path.{◌≡◌, refl, ap}
use mathlib.Core.Bool.{true, cond}
use mathlib.Core.Logic.Iff
use mathlib.Core.Logic.{◌↔◌, ◌⊎◌, true-and, and-true}
use mathlib.Core.List.{List, [], ◌∷◌}
use lib.ListN.{length, get_or}
use Rattle.lent.specs.Outcome.{answer_of, lent_after}
use Rattle.lent.specs.Refusal.{refusal}
use Rattle.lent.specs.declared.Answer.{Answer}
use Rattle.lent.proofs.Bools.{cond_ext}
use Rattle.lent.proofs.Exactly.{below, not-below}
use Rattle.picture.proofs.Sizes.{short_exactly, fit_exactly}
use Rattle.lent.proofs.Refusal.{refusal_exactly, refusal_none}
use Rattle.lent.proofs.Outcome.{outcome_unique}
use Rattle.colour.specs.Limited.{forward_by}
use Rattle.colour.specs.declared.Matrix.{Matrix}
use Rattle.colour.specs.declared.Yuv.{Yuv}
use Rattle.from_rgba.specs.declared.edges.Edge.{Edge}
use Rattle.from_rgba.specs.Averaged.{averaged}
use Rattle.picture.specs.declared.Size.{Size}
use Rattle.picture.specs.Sizes.{stride_of, rows_of, planes_short, PlanesFit, plane_of}
use Rattle.from_rgba.specs.FromRgba.{converted_of, in_picture, with_edge, SamePixels, rgba_short, from_number_of, from_buffers_of, FromRgbaOutcome}
use Rattle.from_rgba.proofs.Passes.{Local}
use Rattle.from_rgba.proofs.Blocks.{averaged_local}
use Rattle.from_rgba.proofs.EdgeLaws.{edged_local}
use Rattle.from_rgba.specs.Rows.{colour_at}
use Rattle.from_rgba.proofs.Padding.{inside_facts}

module _ (z : Size) (n ny nu nv : ℕ) where
  pub from_2_exactly : (from_number_of z n ny nu nv ≡ 2) ↔ (n < z.width * z.height * 4)
  from_2_exactly = Iff.trans (refusal_exactly (rgba_short z n) 2 ((planes_short z ny nu nv, 1) ∷ []) tt (λ e. omega arith) [] tt) (Iff.trans true-and (below n _))

  pub from_1_exactly : (from_number_of z n ny nu nv ≡ 1)
      ↔ ((z.width * z.height * 4 ≤ n) × (((ny < rows_of z * stride_of z) ⊎ (nu < rows_of z * stride_of z)) ⊎ (nv < rows_of z * stride_of z)))
  from_1_exactly =
      Iff.trans (refusal_exactly (planes_short z ny nu nv) 1 [] tt (λ e. omega arith) ((rgba_short z n, 2) ∷ []) tt)
      (Iff.and (Iff.trans and-true (not-below n _)) (short_exactly z ny nu nv))

  pub from_0_exactly : (from_number_of z n ny nu nv ≡ 0) ↔ ((z.width * z.height * 4 ≤ n) × PlanesFit z ny nu nv)
  from_0_exactly =
      Iff.trans (refusal_none ((rgba_short z n, 2) ∷ (planes_short z ny nu nv, 1) ∷ []) tt)
      (Iff.and (not-below n _) (Iff.trans and-true (fit_exactly z ny nu nv)))

-- the call's input: the pixels, the size and the three buffers
abbrev pub FromInput : Type 0
FromInput = List ℕ × Size × List ℕ × List ℕ × List ℕ

abbrev pub from_answer_of : FromInput → Answer
from_answer_of i = answer_of (from_number_of i.1 (length i.0) (length i.2) (length i.3) (length i.4)) 0

abbrev pub from_buffers : Matrix → Edge → FromInput → List (List ℕ)
from_buffers m e i = from_buffers_of m e i.0 i.1 i.2 i.3 i.4

pub from_unique : (m : Matrix) (e : Edge) (px : List ℕ) (z : Size) (y u v : List ℕ) (r q : Answer) (rs qs : List (List ℕ))
    → FromRgbaOutcome m e px z y u v r rs → FromRgbaOutcome m e px z y u v q qs → (r ≡ q) × (rs ≡ qs)
from_unique m e px z y u v = outcome_unique from_answer_of (from_buffers m e) (px, z, y, u, v)

-- the three planes' passes read no sample from outside the plane
module _ (z : Size) where
  pub edge_local : (e : Edge) → Local (stride_of z) (rows_of z) (with_edge e z)
  edge_local e = edged_local e (stride_of z) (rows_of z) z.width z.height (omega arith) (omega arith)

  pub average_local : Local (stride_of z) (rows_of z) averaged
  average_local = averaged_local (stride_of z) (rows_of z) (omega arith) (omega arith)

-- ---- alpha, and input past the pixels, reach no answer

module _ (m : Matrix) (z : Size) (px qx : List ℕ) (agree : SamePixels z px qx) where
  pixel : (r c : ℕ) → in_picture z r c ≡ true → converted_of m px z r c ≡ converted_of m qx z r c
  unfolding colour_at
  pixel r c e =
      let f = inside_facts z.width z.height r c e in
      let red : get_or px (4 * (r * z.width + c)) 0 ≡ get_or qx (4 * (r * z.width + c)) 0 = simp add-zero at (agree.same r c 0 f.0 f.1 (omega arith)) in
      λ i. forward_by m (red i) (agree.same r c 1 f.0 f.1 (omega arith) i) (agree.same r c 2 f.0 f.1 (omega arith) i)

  plane_same : (pick : Yuv → ℕ) (pad r c : ℕ) → cond (in_picture z r c) (pick (converted_of m px z r c)) pad ≡ cond (in_picture z r c) (pick (converted_of m qx z r c)) pad
  plane_same pick pad r c = cond_ext (in_picture z r c) (in_picture z r c) _ _ pad refl (λ e. ap pick (pixel r c e))

  pub from_same : (e : Edge) (y u v : List ℕ) → rgba_short z (length px) ≡ rgba_short z (length qx) → (from_answer_of (px, z, y, u, v) ≡ from_answer_of (qx, z, y, u, v)) × (from_buffers_of m e px z y u v ≡ from_buffers_of m e qx z y u v)
  unfolding from_buffers_of
  from_same e y u v short =
      let number : from_number_of z (length px) (length y) (length u) (length v) ≡ from_number_of z (length qx) (length y) (length u) (length v) = λ i. refusal ((short i, 2) ∷ (planes_short z (length y) (length u) (length v), 1) ∷ []) in (
        ap (λ (n : ℕ). answer_of n 0) number,
        λ i.
            lent_after (number i) y (plane_of z (with_edge e z (λ r c. plane_same (λ p. p.y) 0 r c i)) y)
            ∷ lent_after (number i) u (plane_of z (averaged (with_edge e z (λ r c. plane_same (λ p. p.u) 128 r c i))) u)
            ∷ lent_after (number i) v (plane_of z (averaged (with_edge e z (λ r c. plane_same (λ p. p.v) 128 r c i))) v)
            ∷ [],
      )
