-- Two bytes of a row, read as one number.
--
--   pair_of src k     the bytes 2 k and 2 k + 1 of src, the first one low
use Rattle.std.specs.Prelude.{ℕ, ◌+◌, ◌*◌, List, get_or}

unfoldable pub pair_of : List ℕ → ℕ → ℕ
pair_of src k = get_or src (2 * k) 0 + 256 * get_or src (2 * k + 1) 0
