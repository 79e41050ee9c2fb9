-- The forward clamp never acts: on any RGB triple each channel before its clamp is between 0 and 255 already.
-- Assumes nothing.
use mathlib.Core.Path.{◌≡◌, ap}
use Prim.Native.Nat.{ℕ, ◌-◌, ◌/◌, ◌≤◌, ◌<◌}
use native.Mathlib.Omega.{arith}
use lib.IntN.{pos}
use Rattle.colour.specs.Whole.{◌÷◌, clamp}
use Rattle.colour.specs.Colour.{luma_whole, chroma_u_whole, chroma_v_whole, luma_of, chroma_u_of, chroma_v_of}
use Rattle.colour.proofs.Whole.{diff, diff_pos, differences}

-- a floor between 0 and 255 is its own clamp
unclamped : (a b : ℕ) → b ≤ a → (a - b) / 256 < 256 → pos (clamp (diff a b ÷ 256)) ≡ diff a b ÷ 256
unclamped a b h k = rw (diff_pos a b (a - b) (omega arith)) (ap pos (omega arith))

module _ (r g b : ℕ) (hr : r < 256) (hg : g < 256) (hb : b < 256) where
  pub luma_whole_lem : pos (luma_of r g b) ≡ luma_whole r g b
  unfolding luma_of luma_whole
  luma_whole_lem = ap pos (omega arith)

  pub u_whole : pos (chroma_u_of r g b) ≡ chroma_u_whole r g b
  unfolding chroma_u_of chroma_u_whole
  u_whole = simp differences (unclamped _ _ (omega arith) (omega arith))

  pub v_whole : pos (chroma_v_of r g b) ≡ chroma_v_whole r g b
  unfolding chroma_v_of chroma_v_whole
  v_whole = simp differences (unclamped _ _ (omega arith) (omega arith))
