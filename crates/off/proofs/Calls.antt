-- The theorem, of what the from RGBA calls leave: the bounds hold, by either matrix and either edge rule, in U and in V; a sample of the picture is
-- its pixel's own before the average; every sample that is not even-even is shown as it was. What is averaged and filtered are bytes, whichever
-- matrix they come from: so limited range is an instance (`limited_off`).
-- Assumes nothing.
use Prim.Native.Nat.{ℕ, ◌+◌, ◌*◌, ◌%◌, ◌≤◌, ◌<◌}
use native.Mathlib.Omega.{arith}
use mathlib.Core.Path.{◌≡◌, sym, ap, ◌∙◌, subst}
use mathlib.Core.Bool.{Bool, true, false, cond}
use mathlib.Core.Logic.{◌⊎◌}
use mathlib.Core.List.{List, [], ◌∷◌}
use lib.IntN.{pos}
use lib.ListN.{length, get_or}
use Rattle.lent.specs.declared.Answer.{Answer}
use Rattle.lent.proofs.Ends.{lent_done}
use Rattle.layout.specs.declared.Chroma.{Chroma}
use Rattle.layout.specs.declared.Chroma.TheVariants.{CU, CV}
use Rattle.colour.specs.Colour.{forward_of, filter_of, applied_in}
use Rattle.colour.specs.declared.Matrix.{Matrix}
use Rattle.colour.specs.declared.Matrix.TheVariants.{Full, Limited}
use Rattle.colour.proofs.Clamp.{u_whole, v_whole}
use Rattle.colour.proofs.LimitedLaws.{limited_whole, u_byte_by, v_byte_by}
use Rattle.picture.specs.declared.Size.{Size}
use Rattle.picture.specs.Sizes.{stride_of, rows_of, PlanesFit, plane_of}
use Rattle.picture.specs.New.{fresh_chroma}
use Rattle.from_rgba.specs.declared.edges.Edge.{Edge}
use Rattle.from_rgba.specs.declared.edges.Edge.TheVariants.{Fresh, Filled}
use Rattle.from_rgba.specs.Averaged.{averaged}
use Rattle.from_rgba.specs.Edges.{filled}
use Rattle.from_rgba.specs.Rows.{colour_at}
use Rattle.from_rgba.specs.FromRgba.{converted_of, in_picture, with_edge, from_number_of, from_buffers_of, FromRgbaOutcome}
use Rattle.from_rgba.proofs.BothEdges.{sample_own}
use Rattle.from_rgba.proofs.FromRgbaOutcome.{from_0_exactly}
use Rattle.to_rgba_rows.specs.Rules.{chroma_at, filtered_at}
use Rattle.off.specs.Off.{below, above, applied_below, applied_above, Off, chroma_of, whole_of, before_of, left_of, Bounds}
use Rattle.off.proofs.Blocks.{averaged_block, alike_own}
use Rattle.off.proofs.Planes.{block_at, answer_is, applied_is, others_own, plane_off}

-- ---- every sample before the average is a byte, whatever the input and the padding

edged_byte : (e : Edge) (z : Size) (p : ℕ → ℕ → ℕ) → ((r c : ℕ) → p r c < 256) → (r c : ℕ) → with_edge e z p r c < 256
unfolding filled
edged_byte Fresh z p bytes r c = bytes r c
edged_byte Filled z p bytes r c = bytes _ _

fresh_byte : (b : Bool) (n : ℕ) → n < 256 → cond b n 128 < 256
fresh_byte true n h = h
fresh_byte false n h = omega arith

pub before_byte : (m : Matrix) (k : Chroma) (e : Edge) (z : Size) (px : List ℕ) (r c : ℕ) → before_of m k e z px r c < 256
unfolding colour_at
before_byte m CU e z px = edged_byte e z _ (λ r c. fresh_byte (in_picture z r c) _ (u_byte_by m _ _ _))
before_byte m CV e z px = edged_byte e z _ (λ r c. fresh_byte (in_picture z r c) _ (v_byte_by m _ _ _))

module _ (m : Matrix) (e : Edge) (k : Chroma) (px : List ℕ) (z : Size) (y u v : List ℕ) (n : Answer) (bs : List (List ℕ))
    (ends : FromRgbaOutcome m e px z y u v n bs) (none : n.number ≡ 0) where
  done : from_number_of z (length px) (length y) (length u) (length v) ≡ 0
  done = sym (ap (λ (a : Answer). a.number) ends.answer) ∙ none

  -- the buffer that was lent for the plane
  abbrev lent_for : Chroma → List ℕ
  lent_for CU = u
  lent_for CV = v

  left_is : left_of k bs ≡ plane_of z (averaged (before_of m k e z px)) (lent_for k)
  unfolding from_buffers_of
  left_is = ap (left_of k) ends.buffers ∙ of_plane k
    where
      of_plane : (k : Chroma) → left_of k (from_buffers_of m e px z y u v) ≡ plane_of z (averaged (before_of m k e z px)) (lent_for k)
      of_plane CU = sym (lent_done (from_number_of z (length px) (length y) (length u) (length v)) u _ done)
      of_plane CV = sym (lent_done (from_number_of z (length px) (length y) (length u) (length v)) v _ done)

  room : PlanesFit z (length y) (length u) (length v)
  room = ((from_0_exactly z (length px) (length y) (length u) (length v)).0 done).1

  fits : rows_of z * stride_of z ≤ length (lent_for k)
  fits = of_plane k
    where
      of_plane : (k : Chroma) → rows_of z * stride_of z ≤ length (lent_for k)
      of_plane CU = room.u_fits
      of_plane CV = room.v_fits

  -- the three other samples of a block come back as they were
  pub left_own : (r c : ℕ) → r < rows_of z → c < stride_of z → (r % 2 ≡ 1) ⊎ (c % 2 ≡ 1) → chroma_at (left_of k bs) (stride_of z) r c ≡ before_of m k e z px r c
  left_own r c hr hc odd =
      ap (λ (q : List ℕ). chroma_at q (stride_of z) r c) left_is ∙ others_own z (before_of m k e z px) (lent_for k) fits r c hr hc odd

  module _ (r c : ℕ) (hr : r < rows_of z) (hc : c < stride_of z) (even-r : r % 2 ≡ 0) (even-c : c % 2 ≡ 0) where
    abbrev before : ℕ → ℕ → ℕ
    before = before_of m k e z px

    -- what the filter answers for an even-even sample, and whether it was applied: of its block before the average
    pub left_answer : chroma_at (left_of k bs) (stride_of z) r c ≡ filter_of (averaged_block (block_at before r c))
    left_answer = ap (λ (q : List ℕ). chroma_at q (stride_of z) r c) left_is ∙ answer_is z before (lent_for k) fits r c hr hc even-r even-c

    pub left_applied : filtered_at (left_of k bs) (stride_of z) r c ≡ applied_in (averaged_block (block_at before r c))
    left_applied = ap (λ (q : List ℕ). filtered_at q (stride_of z) r c) left_is ∙ applied_is z before (lent_for k) fits r c hr hc even-r even-c

    -- a block of one colour comes back as it was
    pub left_alike : before r (c + 1) ≡ before r c → before (r + 1) c ≡ before r c → before (r + 1) (c + 1) ≡ before r c
        → chroma_at (left_of k bs) (stride_of z) r c ≡ before r c
    left_alike right under across =
        left_answer ∙ (λ i. filter_of (averaged_block (before r c ∷ right i ∷ under i ∷ across i ∷ []))) ∙ alike_own (before r c) (before_byte m k e z px r c)

    pub left_off : Off below above applied_below applied_above before (left_of k bs) (stride_of z) r c
    left_off =
        subst (λ (q : List ℕ). Off below above applied_below applied_above before q (stride_of z) r c) (sym left_is)
        (plane_off z before (lent_for k) fits r c hr hc even-r even-c (before_byte m k e z px))

-- "between 30 below and 31 above the sample before averaging, and between 1 below and 2 above wherever the filter is applied"
pub colours_off : (m : Matrix) (e : Edge) (k : Chroma) → Bounds m e k below above applied_below applied_above
colours_off m e k = record { off = left_off m e k }

-- a picture of limited range, whose edge is filled
pub limited_off : (k : Chroma) → Bounds Limited Filled k below above applied_below applied_above
limited_off = colours_off Limited Filled

-- the sample of a pixel of the picture, before the average, is U or V of its own colour, by either edge rule
pub before_own : (m : Matrix) (e : Edge) (k : Chroma) (z : Size) (px : List ℕ) (r c : ℕ) → r < z.height → c < z.width
    → before_of m k e z px r c ≡ chroma_of k (converted_of m px z r c)
before_own m e CU z px = sample_own e z (λ r c. (converted_of m px z r c).u) fresh_chroma
before_own m e CV z px = sample_own e z (λ r c. (converted_of m px z r c).v) fresh_chroma

-- "the forward clamp never acts on any RGB triple", of limited range neither: so it is the formula's own whole number
pub colour_whole : (m : Matrix) (k : Chroma) (px : List ℕ) (z : Size) (r c : ℕ) → ((i : ℕ) → get_or px i 0 < 256) →
    let at = 4 * (r * z.width + c) in
    pos (chroma_of k (converted_of m px z r c)) ≡ whole_of m k (get_or px at 0) (get_or px (at + 1) 0) (get_or px (at + 2) 0)
unfolding colour_at forward_of
colour_whole Full CU px z r c bytes = u_whole _ _ _ (bytes _) (bytes _) (bytes _)
colour_whole Full CV px z r c bytes = v_whole _ _ _ (bytes _) (bytes _) (bytes _)
colour_whole Limited CU px z r c bytes = (limited_whole _ _ _ (bytes _) (bytes _) (bytes _)).1
colour_whole Limited CV px z r c bytes = (limited_whole _ _ _ (bytes _) (bytes _) (bytes _)).2
