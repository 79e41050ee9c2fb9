-- The colour rules of MS-RDPEGFX 3.3.8.3.1 and the filter of 3.3.8.3.2, in the words of R30 to R35.
-- A colour is three bytes r g b, or y u v; a pixel is the list of the four bytes red, green, blue, alpha.
-- A block is the list of its four chroma samples: the even-even one first, then right, below, diagonal.
--   forward_of r g b   Y, U and V of a colour; luma_whole, chroma_u_whole, chroma_v_whole: each before its clamp
--   reverse_of y u v   the pixel of Y, U and V
--   average_of s       the average of a block
--   filter_of s        the reverse filter of a block; filtered_of a s: of its first sample a and the sum s of the others
--   applied_in s       whether it was applied, applied_of a s; undone_in s, undone_of a s: both as the filter's answer
use Rattle.std.specs.Prelude.{Bool, cond, not, List, [], ◌∷◌, ℕ, ◌+◌, ◌/◌, ltb, ℤ, pos, neg_ℤ, ◌+ℤ◌, ◌-ℤ◌, ◌*ℤ◌, get_or}
use Rattle.colour.specs.Whole.{◌÷◌, clamp, distance}
use Rattle.colour.specs.declared.Undone.{Undone}
use Rattle.colour.specs.declared.Yuv.{Yuv}

-- "Forward: Y = (54R+183G+18B)/256"
unfoldable pub luma_whole : ℕ → ℕ → ℕ → ℤ
luma_whole r g b = (pos 54 *ℤ pos r +ℤ pos 183 *ℤ pos g +ℤ pos 18 *ℤ pos b) ÷ 256

-- "U = (-29R-99G+128B)/256 + 128"
unfoldable pub chroma_u_whole : ℕ → ℕ → ℕ → ℤ
chroma_u_whole r g b = (neg_ℤ (pos 29) *ℤ pos r -ℤ pos 99 *ℤ pos g +ℤ pos 128 *ℤ pos b) ÷ 256 +ℤ pos 128

-- "V = (128R-116G-12B)/256 + 128"
unfoldable pub chroma_v_whole : ℕ → ℕ → ℕ → ℤ
chroma_v_whole r g b = (pos 128 *ℤ pos r -ℤ pos 116 *ℤ pos g -ℤ pos 12 *ℤ pos b) ÷ 256 +ℤ pos 128

-- "each clamped to 0..255"
unfoldable pub luma_of : ℕ → ℕ → ℕ → ℕ
luma_of r g b = clamp (luma_whole r g b)

unfoldable pub chroma_u_of : ℕ → ℕ → ℕ → ℕ
chroma_u_of r g b = clamp (chroma_u_whole r g b)

unfoldable pub chroma_v_of : ℕ → ℕ → ℕ → ℕ
chroma_v_of r g b = clamp (chroma_v_whole r g b)

unfoldable pub forward_of : ℕ → ℕ → ℕ → Yuv
forward_of r g b = record { y = luma_of r g b; u = chroma_u_of r g b; v = chroma_v_of r g b }

-- "Reverse, with u = U-128, v = V-128"
abbrev pub centred : ℕ → ℤ
centred c = pos c -ℤ pos 128

-- "R = (256Y+403v)/256", clamped
unfoldable pub red_of : ℕ → ℕ → ℕ
red_of y v = clamp ((pos 256 *ℤ pos y +ℤ pos 403 *ℤ centred v) ÷ 256)

-- "G = (256Y-48u-120v)/256", clamped
unfoldable pub green_of : ℕ → ℕ → ℕ → ℕ
green_of y u v = clamp ((pos 256 *ℤ pos y -ℤ pos 48 *ℤ centred u -ℤ pos 120 *ℤ centred v) ÷ 256)

-- "B = (256Y+475u)/256", clamped
unfoldable pub blue_of : ℕ → ℕ → ℕ
blue_of y u = clamp ((pos 256 *ℤ pos y +ℤ pos 475 *ℤ centred u) ÷ 256)

-- "alpha 255"
unfoldable pub reverse_of : ℕ → ℕ → ℕ → List ℕ
reverse_of y u v = red_of y v ∷ green_of y u v ∷ blue_of y u ∷ 255 ∷ []

-- "(sum of the block's four samples + 2)/4, floor"
abbrev pub average_of : List ℕ → ℕ
average_of s = (get_or s 0 0 + get_or s 1 0 + get_or s 2 0 + get_or s 3 0 + 2) / 4

-- "t = 4a-s clamped to 0..255"
unfoldable pub reversed : ℕ → ℕ → ℕ
reversed a s = clamp (pos 4 *ℤ pos a -ℤ pos s)

-- "If |t-a| is below 30 the answer is a, else t"
unfoldable pub filtered_of : ℕ → ℕ → ℕ
filtered_of a s = cond (ltb (distance (reversed a s) a) 30) a (reversed a s)

-- "With a the even-even sample and s the sum of the other three"
abbrev pub filter_of : List ℕ → ℕ
filter_of s = filtered_of (get_or s 0 0) (get_or s 1 0 + get_or s 2 0 + get_or s 3 0)

-- "A kept average counts as not applied even where t equals a"
unfoldable pub applied_of : ℕ → ℕ → Bool
applied_of a s = not (ltb (distance (reversed a s) a) 30)

abbrev pub applied_in : List ℕ → Bool
applied_in s = applied_of (get_or s 0 0) (get_or s 1 0 + get_or s 2 0 + get_or s 3 0)

-- "The filter's answer becomes the value and whether it was applied"
abbrev pub undone_of : ℕ → ℕ → Undone
undone_of a s = record { value = filtered_of a s; applied = applied_of a s }

abbrev pub undone_in : List ℕ → Undone
undone_in s = record { value = filter_of s; applied = applied_in s }
