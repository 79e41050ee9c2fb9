-- The colour formulas in natural numbers, as 16 unsigned bits work them out. Forward: 32768 = 128 * 256 goes under the
-- division. Reverse: 403 = 256 + 147 and 475 = 256 + 219, so that no term passes 65535. Assumes nothing.
use mathlib.Core.Path.{◌≡◌}
use Prim.Native.Nat.{ℕ, ◌+◌, ◌*◌, ◌-◌, ◌/◌, ◌<◌, min}
use native.Mathlib.Omega.{arith}
use Rattle.colour.specs.Colour.{luma_whole, chroma_u_whole, chroma_v_whole, luma_of, chroma_u_of, chroma_v_of, red_of, green_of, blue_of}
use Rattle.colour.proofs.Whole.{wholes}

module _ (r g b : ℕ) (hr : r < 256) (hg : g < 256) (hb : b < 256) where
  pub luma_is : luma_of r g b ≡ (54 * r + 183 * g + 18 * b) / 256
  unfolding luma_of luma_whole
  luma_is = omega arith

  pub u_is : chroma_u_of r g b ≡ (32768 + 128 * b - (29 * r + 99 * g)) / 256
  unfolding chroma_u_of chroma_u_whole
  u_is = simp wholes (omega arith)

  pub v_is : chroma_v_of r g b ≡ (32768 + 128 * r - (116 * g + 12 * b)) / 256
  unfolding chroma_v_of chroma_v_whole
  v_is = simp wholes (omega arith)

pub red_is : (y v : ℕ) → red_of y v ≡ min (y + v + (147 * v + 128) / 256 - 202) 255
unfolding red_of
red_is y v = simp wholes (omega arith)

pub green_is : (y u v : ℕ) → green_of y u v ≡ min (y + 84 - (48 * u + 120 * v + 255) / 256) 255
unfolding green_of
green_is y u v = simp wholes (omega arith)

pub blue_is : (y u : ℕ) → blue_of y u ≡ min (y + u + (219 * u + 128) / 256 - 238) 255
unfolding blue_of
blue_is y u = simp wholes (omega arith)
