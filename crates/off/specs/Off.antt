-- How far a colour can be off, in samples of U and V (R55). Everywhere m is the colour matrix that from RGBA converted by.
--
--   below, above                 what the filter answers for an even-even sample is at most so far below the sample before averaging, and at
--                                most so far above it
--   applied_below, applied_above   the same wherever the filter is applied
--   Near b a x f                 f is at most b below x, and at most a above it
--   Off b a b' a' p q stride r c      what the filter answers at (r, c) of the plane q beside the sample p r c: within b and a, and within b'
--                                and a' where it is applied
--   chroma_of k colour            U or V of a colour
--   whole_of m k r g b            U or V of a colour before its clamp
--   before_of m k e z px          U or V before the average: of the pixels and, by the edge rule e, of the padding, which "counts among the samples"
--   left_of k bs                  U or V among the buffers that a call left
--   Bounds m e k b a b' a'       of every picture that from RGBA makes by the matrix m and the edge rule e, each even-even sample of the plane k is Off
use Rattle.std.specs.Prelude.{ℕ, ◌+◌, ◌%◌, ◌<◌, ◌≤◌, ◌≡◌, true, List, [], ℤ, get_or}
use Rattle.lent.specs.declared.Answer.{Answer}
use Rattle.colour.specs.Colour.{chroma_u_whole, chroma_v_whole}
use Rattle.colour.specs.Limited.{limited_u_whole, limited_v_whole}
use Rattle.colour.specs.declared.Matrix.{Matrix}
use Rattle.colour.specs.declared.Matrix.TheVariants.{Full, Limited}
use Rattle.colour.specs.declared.Yuv.{Yuv}
use Rattle.layout.specs.declared.Chroma.{Chroma}
use Rattle.layout.specs.declared.Chroma.TheVariants.{CU, CV}
use Rattle.picture.specs.declared.Size.{Size}
use Rattle.picture.specs.Sizes.{stride_of, rows_of}
use Rattle.from_rgba.specs.declared.edges.Edge.{Edge}
use Rattle.from_rgba.specs.FromRgba.{chroma_u_plane, chroma_v_plane, with_edge, FromRgbaOutcome}
use Rattle.to_rgba_rows.specs.Rules.{chroma_at, filtered_at}

-- "between 30 below and 31 above the sample before averaging"
abbrev pub below : ℕ
below = 30

abbrev pub above : ℕ
above = 31

-- "and between 1 below and 2 above wherever the filter is applied"
abbrev pub applied_below : ℕ
applied_below = 1

abbrev pub applied_above : ℕ
applied_above = 2

pub record Near (b a x f : ℕ) : Type 0 where
  pub low : x ≤ f + b
  pub high : f ≤ x + a

pub record Off (b a b' a' : ℕ) (p : ℕ → ℕ → ℕ) (q : List ℕ) (stride r c : ℕ) : Type 0 where
  pub answer : Near b a (p r c) (chroma_at q stride r c)
  pub applied : filtered_at q stride r c ≡ true → Near b' a' (p r c) (chroma_at q stride r c)

abbrev pub chroma_of : Chroma → Yuv → ℕ
chroma_of CU colour = colour.u
chroma_of CV colour = colour.v

abbrev pub whole_of : Matrix → Chroma → ℕ → ℕ → ℕ → ℤ
whole_of Full CU = chroma_u_whole
whole_of Full CV = chroma_v_whole
whole_of Limited CU = limited_u_whole
whole_of Limited CV = limited_v_whole

abbrev pub before_of : Matrix → Chroma → Edge → Size → List ℕ → ℕ → ℕ → ℕ
before_of m CU e z px = with_edge e z (chroma_u_plane m z px)
before_of m CV e z px = with_edge e z (chroma_v_plane m z px)

abbrev pub left_of : Chroma → List (List ℕ) → List ℕ
left_of CU bs = get_or bs 1 []
left_of CV bs = get_or bs 2 []

-- "when from RGBA makes the picture": it answered 0
pub record Bounds (m : Matrix) (e : Edge) (k : Chroma) (b a b' a' : ℕ) : Type 0 where
  pub off : (px : List ℕ) (z : Size) (y u v : List ℕ) (n : Answer) (bs : List (List ℕ)) → FromRgbaOutcome m e px z y u v n bs → n.number ≡ 0
      → (r c : ℕ) → r < rows_of z → c < stride_of z → r % 2 ≡ 0 → c % 2 ≡ 0 → Off b a b' a' (before_of m k e z px) (left_of k bs) (stride_of z) r c
