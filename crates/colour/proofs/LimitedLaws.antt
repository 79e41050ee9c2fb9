-- Limited range in natural numbers, as 16 unsigned bits work it out: 298 = 256 + 42, 409 = 256 + 153, 208 = 256 - 48, 516 = 512 + 4. Its ranges:
-- of any colour Y is within 16..235, U and V are within 16..240, so that the forward formulas have nothing to clamp; a grey has U and V 128.
-- Assumes nothing.
use mathlib.Core.Path.{◌≡◌, ◌∙◌, sym, ap}
use Prim.Native.Nat.{ℕ, ◌+◌, ◌*◌, ◌-◌, ◌/◌, ◌≤◌, ◌<◌, min}
use native.Mathlib.Omega.{arith}
use lib.IntN.{pos}
use Rattle.colour.specs.Whole.{◌÷◌, clamp}
use Rattle.colour.specs.Limited.{
  limited_red_of,
  limited_green_of,
  limited_blue_of,
  limited_luma_whole,
  limited_u_whole,
  limited_v_whole,
  limited_forward_of,
  forward_by,
}
use Rattle.colour.specs.declared.Matrix.{Matrix}
use Rattle.colour.specs.declared.Matrix.TheVariants.{Full, Limited}
use Rattle.colour.specs.Colour.{forward_of}
use Rattle.colour.proofs.Whole.{diff, diff_pos, wholes, differences}
use Rattle.colour.proofs.Bytes.{clamp_byte, u_byte, v_byte}

pub red_is : (y v : ℕ) → limited_red_of y v ≡ min (y + v + (42 * y + 153 * v + 96) / 256 - 223) 255
unfolding limited_red_of
red_is y v = simp wholes (omega arith)

pub green_is : (y u v : ℕ) → u < 256 → limited_green_of y u v ≡ min (y + (42 * y + 48 * v + 34784 - 100 * u) / 256 - v) 255
unfolding limited_green_of
green_is y u v hu = simp wholes (omega arith)

pub blue_is : (y u : ℕ) → limited_blue_of y u ≡ min (y + 2 * u + (42 * y + 4 * u + 224) / 256 - 277) 255
unfolding limited_blue_of
blue_is y u = simp wholes (omega arith)

floored : (a b : ℕ) → b ≤ a → diff a b ÷ 256 ≡ pos ((a - b) / 256)
floored a b h = rw (diff_pos a b (a - b) (omega arith)) (ap pos (omega arith))

module _ (r g b : ℕ) (hr : r < 256) (hg : g < 256) (hb : b < 256) where
  pub luma_whole_lem : limited_luma_whole r g b ≡ pos ((66 * r + 129 * g + 25 * b + 128) / 256 + 16)
  unfolding limited_luma_whole
  luma_whole_lem = ap pos (omega arith)

  pub u_whole : limited_u_whole r g b ≡ pos ((32896 + 112 * b - (38 * r + 74 * g)) / 256)
  unfolding limited_u_whole
  u_whole = simp differences (floored _ _ (omega arith) ∙ ap pos (omega arith))

  pub v_whole : limited_v_whole r g b ≡ pos ((32896 + 112 * r - (94 * g + 18 * b)) / 256)
  unfolding limited_v_whole
  v_whole = simp differences (floored _ _ (omega arith) ∙ ap pos (omega arith))

  pub luma_is : (limited_forward_of r g b).y ≡ (66 * r + 129 * g + 25 * b + 128) / 256 + 16
  unfolding limited_forward_of
  luma_is = ap clamp luma_whole_lem ∙ omega arith

  pub u_is : (limited_forward_of r g b).u ≡ (32896 + 112 * b - (38 * r + 74 * g)) / 256
  unfolding limited_forward_of
  u_is = ap clamp u_whole ∙ omega arith

  pub v_is : (limited_forward_of r g b).v ≡ (32896 + 112 * r - (94 * g + 18 * b)) / 256
  unfolding limited_forward_of
  v_is = ap clamp v_whole ∙ omega arith

  -- nothing is clamped: each channel is the formula's own whole number
  pub limited_whole : (pos (limited_forward_of r g b).y ≡ limited_luma_whole r g b)
      × (pos (limited_forward_of r g b).u ≡ limited_u_whole r g b)
      × (pos (limited_forward_of r g b).v ≡ limited_v_whole r g b)
  limited_whole = (ap pos luma_is ∙ sym luma_whole_lem, ap pos u_is ∙ sym u_whole, ap pos v_is ∙ sym v_whole)

  -- "Y 16..235, U and V 16..240 from any RGB"
  pub luma_range : (16 ≤ (limited_forward_of r g b).y) × ((limited_forward_of r g b).y ≤ 235)
  luma_range = (omega (arith, luma_is), omega (arith, luma_is))

  pub u_range : (16 ≤ (limited_forward_of r g b).u) × ((limited_forward_of r g b).u ≤ 240)
  u_range = (omega (arith, u_is), omega (arith, u_is))

  pub v_range : (16 ≤ (limited_forward_of r g b).v) × ((limited_forward_of r g b).v ≤ 240)
  v_range = (omega (arith, v_is), omega (arith, v_is))

-- a grey has no colour: U and V are 128
pub grey : (x : ℕ) → x < 256 → ((limited_forward_of x x x).u ≡ 128) × ((limited_forward_of x x x).v ≡ 128)
grey x h = (u_is x x x h h h ∙ omega arith, v_is x x x h h h ∙ omega arith)

-- U and V are bytes, by either matrix and of any numbers
pub u_byte_by : (m : Matrix) (r g b : ℕ) → (forward_by m r g b).u < 256
unfolding forward_of limited_forward_of
u_byte_by Full r g b = u_byte r g b
u_byte_by Limited r g b = clamp_byte (limited_u_whole r g b)

pub v_byte_by : (m : Matrix) (r g b : ℕ) → (forward_by m r g b).v < 256
unfolding forward_of limited_forward_of
v_byte_by Full r g b = v_byte r g b
v_byte_by Limited r g b = clamp_byte (limited_v_whole r g b)
