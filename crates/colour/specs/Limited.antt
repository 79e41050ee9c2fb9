-- BT.601 of limited range, in the words of R38 and R39, and both matrices by their name. A colour and a pixel are as in Colour.antt.
--   scaled y                  "c = 298(Y-16)"
--   limited_reverse_of y u v    the pixel of Y, U and V
--   limited_forward_of r g b    Y, U and V of a colour; limited_luma_whole, limited_u_whole, limited_v_whole: each as a whole number. Nothing is clamped
--                             (`limited_whole`): each is a byte, within 16..235 or 16..240
--   forward_by m, reverse_by m  the colour rules of the matrix m: full range, R31 and R32, or limited range
use Rattle.std.specs.Prelude.{List, [], ◌∷◌, ℕ, ℤ, pos, neg_ℤ, ◌+ℤ◌, ◌-ℤ◌, ◌*ℤ◌}
use Rattle.colour.specs.Whole.{◌÷◌, clamp}
use Rattle.colour.specs.Colour.{centred, forward_of, reverse_of}
use Rattle.colour.specs.declared.Matrix.{Matrix}
use Rattle.colour.specs.declared.Matrix.TheVariants.{Full, Limited}
use Rattle.colour.specs.declared.Yuv.{Yuv}

-- "c = 298(Y-16), u = U-128, v = V-128"
abbrev pub scaled : ℕ → ℤ
scaled y = pos 298 *ℤ (pos y -ℤ pos 16)

-- "R = (c+409v+128)/256", "floor, clamped to 0..255"
unfoldable pub limited_red_of : ℕ → ℕ → ℕ
limited_red_of y v = clamp ((scaled y +ℤ pos 409 *ℤ centred v +ℤ pos 128) ÷ 256)

-- "G = (c-100u-208v+128)/256"
unfoldable pub limited_green_of : ℕ → ℕ → ℕ → ℕ
limited_green_of y u v = clamp ((scaled y -ℤ pos 100 *ℤ centred u -ℤ pos 208 *ℤ centred v +ℤ pos 128) ÷ 256)

-- "B = (c+516u+128)/256"
unfoldable pub limited_blue_of : ℕ → ℕ → ℕ
limited_blue_of y u = clamp ((scaled y +ℤ pos 516 *ℤ centred u +ℤ pos 128) ÷ 256)

-- "alpha 255"
unfoldable pub limited_reverse_of : ℕ → ℕ → ℕ → List ℕ
limited_reverse_of y u v = limited_red_of y v ∷ limited_green_of y u v ∷ limited_blue_of y u ∷ 255 ∷ []

-- "Y = (66R+129G+25B+128)/256+16"
unfoldable pub limited_luma_whole : ℕ → ℕ → ℕ → ℤ
limited_luma_whole r g b = (pos 66 *ℤ pos r +ℤ pos 129 *ℤ pos g +ℤ pos 25 *ℤ pos b +ℤ pos 128) ÷ 256 +ℤ pos 16

-- "U = (-38R-74G+112B+128)/256+128"
unfoldable pub limited_u_whole : ℕ → ℕ → ℕ → ℤ
limited_u_whole r g b = (neg_ℤ (pos 38) *ℤ pos r -ℤ pos 74 *ℤ pos g +ℤ pos 112 *ℤ pos b +ℤ pos 128) ÷ 256 +ℤ pos 128

-- "V = (112R-94G-18B+128)/256+128"
unfoldable pub limited_v_whole : ℕ → ℕ → ℕ → ℤ
limited_v_whole r g b = (pos 112 *ℤ pos r -ℤ pos 94 *ℤ pos g -ℤ pos 18 *ℤ pos b +ℤ pos 128) ÷ 256 +ℤ pos 128

unfoldable pub limited_forward_of : ℕ → ℕ → ℕ → Yuv
limited_forward_of r g b = record { y = clamp (limited_luma_whole r g b); u = clamp (limited_u_whole r g b); v = clamp (limited_v_whole r g b) }

abbrev pub forward_by : Matrix → ℕ → ℕ → ℕ → Yuv
forward_by Full = forward_of
forward_by Limited = limited_forward_of

abbrev pub reverse_by : Matrix → ℕ → ℕ → ℕ → List ℕ
reverse_by Full = reverse_of
reverse_by Limited = limited_reverse_of
