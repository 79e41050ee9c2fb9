-- What the bounds are in red, green and blue: of any Y, U and V, and of what picture to RGBA shows of a picture that from RGBA made, both of full range.
-- Assumes nothing.
use Prim.Native.Nat.{ℕ, ◌+◌, ◌*◌, ◌%◌, ◌<◌}
use native.Mathlib.Omega.{arith}
use mathlib.Core.Path.{◌≡◌, refl, ◌∙◌}
use mathlib.Core.Bool.{Bool, true, false}
use mathlib.Core.Logic.{◌⊎◌}
use mathlib.Core.List.{List, [], ◌∷◌}
use Rattle.lent.specs.declared.Answer.{Answer}
use Rattle.layout.specs.declared.Chroma.{Chroma}
use Rattle.layout.specs.declared.Chroma.TheVariants.{CU, CV}
use Rattle.colour.specs.Colour.{red_of, green_of, blue_of, reverse_of}
use Rattle.colour.specs.declared.Matrix.TheVariants.{Full}
use Rattle.colour.proofs.Formulas.{red_is, green_is, blue_is}
use Rattle.picture.specs.declared.Size.{Size}
use Rattle.picture.specs.Sizes.{stride_of}
use Rattle.from_rgba.specs.declared.edges.Edge.{Edge}
use Rattle.from_rgba.specs.FromRgba.{converted_of, FromRgbaOutcome}
use Rattle.from_rgba.proofs.BothEdges.{luma_own}
use Rattle.to_rgba_rows.specs.Rules.{chroma_at, filtered_at, pixel_at}
use Rattle.off.specs.Off.{below, above, applied_below, applied_above, Near, Off, chroma_of, before_of, left_of}
use Rattle.off.specs.Shown.{below_by, above_by, channel_of, own_pixel, RedNear, GreenNear, BlueNear, ShownNear}
use Rattle.off.proofs.Calls.{left_off, left_own, before_own}

module _ (y u v u' v' bu au bv av : ℕ) (near-u : Near bu au u u') (near-v : Near bv av v v') where
  red_near : RedNear bv av (red_of y v) (red_of y v')
  unfolding channel_of
  red_near = record { low = omega (arith, near-v.low, red_is y v, red_is y v'); high = omega (arith, near-v.high, red_is y v, red_is y v') }

  green_near : GreenNear bu au bv av (green_of y u v) (green_of y u' v')
  unfolding channel_of
  green_near = record {
    low = omega (arith, near-u.high, near-v.high, green_is y u v, green_is y u' v');
    high = omega (arith, near-u.low, near-v.low, green_is y u v, green_is y u' v');
  }

  blue_near : BlueNear bu au (blue_of y u) (blue_of y u')
  unfolding channel_of
  blue_near = record { low = omega (arith, near-u.low, blue_is y u, blue_is y u'); high = omega (arith, near-u.high, blue_is y u, blue_is y u') }

  pub channels_near : ShownNear bu au bv av (reverse_of y u v) (reverse_of y u' v')
  unfolding reverse_of
  channels_near = record { red = red_near; green = green_near; blue = blue_near; alpha = refl }

-- ---- what is shown of a pixel of the picture, by either edge rule

module _ (e : Edge) (px : List ℕ) (z : Size) (y u v y' u' v' : List ℕ) (n : Answer)
    (ends : FromRgbaOutcome Full e px z y u v n (y' ∷ u' ∷ v' ∷ [])) (none : n.number ≡ 0) (r c : ℕ) (hr : r < z.height) (hc : c < z.width) where
  abbrev buffers : List (List ℕ)
  buffers = y' ∷ u' ∷ v' ∷ []

  -- in an odd row or an odd column: the pixel of its own colour
  pub shown_own : (r % 2 ≡ 1) ⊎ (c % 2 ≡ 1) → pixel_at (stride_of z) y' u' v' r c ≡ own_pixel px z r c
  unfolding pixel_at
  shown_own odd =
      let chroma : (k : Chroma) → chroma_at (left_of k buffers) (stride_of z) r c ≡ chroma_of k (converted_of Full px z r c) = λ k.
      left_own Full e k px z y u v n buffers ends none r c (omega arith) (omega arith) odd ∙ before_own Full e k z px r c hr hc in
      λ i. reverse_of (luma_own Full e px z y u v y' u' v' n ends none r c hr hc i) (chroma CU i) (chroma CV i)

  -- at an even row and an even column: near it, as near as its U and V are
  module _ (even-r : r % 2 ≡ 0) (even-c : c % 2 ≡ 0) where
    chroma_off : (k : Chroma) → Off below above applied_below applied_above (before_of Full k e z px) (left_of k buffers) (stride_of z) r c
    chroma_off k = left_off Full e k px z y u v n buffers ends none r c (omega arith) (omega arith) even-r even-c

    by_chroma : (bu au bv av : ℕ) → Near bu au (before_of Full CU e z px r c) (chroma_at u' (stride_of z) r c)
        → Near bv av (before_of Full CV e z px r c) (chroma_at v' (stride_of z) r c)
        → ShownNear bu au bv av (own_pixel px z r c) (pixel_at (stride_of z) y' u' v' r c)
    unfolding pixel_at
    by_chroma bu au bv av near-u near-v =
        rw (luma_own Full e px z y u v y' u' v' n ends none r c hr hc)
        (channels_near _ _ _ _ _ bu au bv av (rw (before_own Full e CU z px r c hr hc) at near-u) (rw (before_own Full e CV z px r c hr hc) at near-v))

    pub shown_within : ShownNear below above below above (own_pixel px z r c) (pixel_at (stride_of z) y' u' v' r c)
    shown_within = by_chroma below above below above (chroma_off CU).answer (chroma_off CV).answer

    -- and nearer where the filter was applied, in one plane or in both
    pub shown_off :
        let tu = filtered_at u' (stride_of z) r c in
        let tv = filtered_at v' (stride_of z) r c in
        ShownNear (below_by tu) (above_by tu) (below_by tv) (above_by tv) (own_pixel px z r c) (pixel_at (stride_of z) y' u' v' r c)
    shown_off = by_chroma _ _ _ _ (by_test CU (filtered_at u' (stride_of z) r c) refl) (by_test CV (filtered_at v' (stride_of z) r c) refl)
      where
        by_test : (k : Chroma) (t : Bool) → filtered_at (left_of k buffers) (stride_of z) r c ≡ t
            → Near (below_by t) (above_by t) (before_of Full k e z px r c) (chroma_at (left_of k buffers) (stride_of z) r c)
        by_test k true is = (chroma_off k).applied is
        by_test k false is = (chroma_off k).answer

-- in numbers: red, green and blue of any pixel, and of one where the filter was applied in both planes
pub kept_numbers : (channel_of (403 * below) ≡ 48) × (channel_of (403 * above) ≡ 49) × (channel_of (48 * above + 120 * above) ≡ 21)
    × (channel_of (48 * below + 120 * below) ≡ 20) × (channel_of (475 * below) ≡ 56) × (channel_of (475 * above) ≡ 58)
unfolding channel_of
kept_numbers = (refl, refl, refl, refl, refl, refl)

pub applied_numbers : (channel_of (403 * applied_below) ≡ 2) × (channel_of (403 * applied_above) ≡ 4) × (channel_of (48 * applied_above + 120 * applied_above) ≡ 2)
    × (channel_of (48 * applied_below + 120 * applied_below) ≡ 1) × (channel_of (475 * applied_below) ≡ 2) × (channel_of (475 * applied_above) ≡ 4)
unfolding channel_of
applied_numbers = (refl, refl, refl, refl, refl, refl)
