-- Whole numbers, as the formulas of MS-RDPEGFX 3.3.8.3 use them. ℤ is `pos a`, that is a, or `negsuc a`, that is -(a + 1).
--   z ÷ n          z divided by n, rounded down, also below zero (`floor` of proofs/Floor.antt says so of n = 256)
--   clamp z        z, or the nearer of 0 and 255 where it is outside them
--   distance a b   |a - b|
use Rattle.std.specs.Prelude.{ℕ, min, ℤ, pos, negsuc, nat_abs, ◌-ℤ◌}
use Rattle.std.specs.Int.Signed.{shr_z}

-- "Division by 256 is floor, also below zero": the library's division that rounds down
infixl 7 ◌÷◌
abbrev pub ◌÷◌ : ℤ → ℕ → ℤ
z ÷ n = shr_z z n

-- "clamped to 0..255"
abbrev pub clamp : ℤ → ℕ
clamp (pos a) = min a 255
clamp (negsuc a) = 0

-- "|t-a|"
abbrev pub distance : ℕ → ℕ → ℕ
distance a b = nat_abs (pos a -ℤ pos b)
