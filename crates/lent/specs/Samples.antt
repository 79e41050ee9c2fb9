-- A sample of a plane whose rows start `stride` bytes apart (R6: row r starts at r x stride).
use Rattle.std.specs.Prelude.{ℕ, ◌+◌, ◌*◌, List, get_or}

unfoldable pub sample : List ℕ → ℕ → ℕ → ℕ → ℕ
sample plane stride r c = get_or plane (r * stride + c) 0
