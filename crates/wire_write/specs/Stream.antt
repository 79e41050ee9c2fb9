-- What is written of a stream (R112, R120): from a rectangle list, "their quantiser and quality pairs and the H.264 bytes", the parts
-- of E1's stream, "each list as its little-endian bytes".
--
--   number_bytes ns          numbers of 16 bits, each as its two bytes
--   parts_from rs ps hs      the parts of a stream: how many fours there are, the numbers, the pairs and the H.264 bytes
--   stream_length r p h      the bytes of a stream of r numbers, p bytes of pairs and h H.264 bytes
use Rattle.std.specs.Prelude.{ℕ, ◌+◌, ◌*◌, ◌/◌, List, [], ◌∷◌, ◌++◌, length}
use Rattle.wire_fields.specs.Fields.{u16_bytes, u32_bytes}
use Rattle.wire_read.specs.Format.{Parts}

abbrev pub number_bytes : List ℕ → List ℕ
number_bytes [] = []
number_bytes (n ∷ ns) = u16_bytes n ++ number_bytes ns

abbrev pub parts_from : List ℕ → List ℕ → List ℕ → Parts
parts_from rs ps hs = record { count = u32_bytes (length rs / 4); rects = number_bytes rs; pairs = ps; h264 = hs }

abbrev pub stream_length : ℕ → ℕ → ℕ → ℕ
stream_length r p h = 4 + 2 * r + p + h
