-- The calls that make a picture answer a number alone over the boundary: their count is always 0, so nothing is lost (`number_alone`).
--
--   HaythawNewOutcome z y u v m             how `haythaw_new` ends: the number, the picture's planes and its map
--   HaythawFromRgbaOutcome x e px z y u v m the same of `haythaw_from_rgba`, `haythaw_from_rgba_limited` and `haythaw_from_rgba_rust`, x being the
--                                           colour matrix and e the edge rule
use Rattle.std.specs.Prelude.{ℕ, List, length}
use Rattle.lent.specs.Outcome.{Outcome}
use Rattle.colour.specs.declared.Matrix.{Matrix}
use Rattle.picture.specs.declared.Size.{Size}
use Rattle.from_rgba.specs.declared.edges.Edge.{Edge}
use Rattle.map_picture.specs.Made.{map_new_number_of, map_new_buffers_of, map_from_number_of, map_from_buffers_of}

abbrev pub HaythawNewOutcome : Size → List ℕ → List ℕ → List ℕ → List ℕ → ℕ → List (List ℕ) → Type 0
HaythawNewOutcome z y u v m =
    let n = map_new_number_of z (length y) (length u) (length v) (length m) in
    Outcome n (map_new_buffers_of n z y u v m)

abbrev pub HaythawFromRgbaOutcome : Matrix → Edge → List ℕ → Size → List ℕ → List ℕ → List ℕ → List ℕ → ℕ → List (List ℕ) → Type 0
HaythawFromRgbaOutcome x e px z y u v m =
    let n = map_from_number_of z (length px) (length y) (length u) (length v) (length m) in
    Outcome n (map_from_buffers_of n x e px z y u v m)
