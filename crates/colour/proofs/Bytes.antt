-- Every answer is a byte. Assumes nothing.
use Prim.Native.Nat.{ℕ, ◌<◌}
use mathlib.Core.Logic.{⊎_elim}
use native.Mathlib.Omega.{arith}
use lib.IntN.{ℤ, pos, negsuc}
use Rattle.colour.specs.Whole.{clamp}
use Rattle.colour.specs.Colour.{luma_whole, chroma_u_whole, chroma_v_whole, luma_of, chroma_u_of, chroma_v_of, red_of, green_of, blue_of, filtered_of}
use Rattle.colour.proofs.Formulas.{red_is, green_is, blue_is}
use Rattle.colour.proofs.Filtering.{kept_or_undone}

pub clamp_byte : (z : ℤ) → clamp z < 256
clamp_byte (pos a) = omega arith
clamp_byte (negsuc a) = omega arith

module _ (r g b : ℕ) where
  pub luma_byte : luma_of r g b < 256
  unfolding luma_of
  luma_byte = clamp_byte (luma_whole r g b)

  pub u_byte : chroma_u_of r g b < 256
  unfolding chroma_u_of
  u_byte = clamp_byte (chroma_u_whole r g b)

  pub v_byte : chroma_v_of r g b < 256
  unfolding chroma_v_of
  v_byte = clamp_byte (chroma_v_whole r g b)

module _ (y u v : ℕ) where
  pub red_byte : red_of y v < 256
  red_byte = omega (arith, red_is y v)

  pub green_byte : green_of y u v < 256
  green_byte = omega (arith, green_is y u v)

  pub blue_byte : blue_of y u < 256
  blue_byte = omega (arith, blue_is y u)

pub filtered_byte : (a s : ℕ) → a < 256 → filtered_of a s < 256
filtered_byte a s h = ⊎_elim (λ k. omega (arith, k.0)) (λ u. omega (arith, u)) (kept_or_undone a s)
