-- Sizes rounded up, and buffers that are too short (R2, R5, R23).
--
--   round_up m n             n, rounded up to a multiple of m: 16 for stride and rows, 2 for the widened area
--   half_up n                half of n, rounded up: a view's chroma width and height
--   too_short stride rows n  n bytes are fewer than rows x stride. The product is that of ℕ, so one that the machine word does not hold
--                           is above every length, and needs no case of its own
use Rattle.std.specs.Prelude.{ℕ, ◌+◌, ◌-◌, ◌*◌, ◌/◌, Bool, ltb}

abbrev pub round_up : ℕ → ℕ → ℕ
round_up m n = (n + (m - 1)) / m * m

abbrev pub half_up : ℕ → ℕ
half_up n = (n + 1) / 2

abbrev pub too_short : ℕ → ℕ → ℕ → Bool
too_short stride rows n = ltb n (rows * stride)
