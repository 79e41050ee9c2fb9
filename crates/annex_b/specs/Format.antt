-- Length-prefixed or Annex B (R100): "Length-prefixed exactly when: not empty, not starting 00 00 01 or
-- 00 00 00 01, and it is wholly made of units, each a big-endian u32 length above 0 and that many bytes."
--
--   start_code           00 00 00 01, which the conversion writes in front of a unit
--   starts_with_of x s    the bytes of s start with those of x
--   summed us           the units' lengths summed, with 4 for each
--   none_empty us        each length is above 0
--   made_from s at       from a position on, units and nothing else, each of a length above 0
--   Made s              the same of all of s, as a statement of its own: proofs/Made.antt proves that the two agree
--   is_avc_format_of s     the sentence above
use Rattle.std.specs.Prelude.{ℕ, ◌+◌, ◌*◌, ◌<◌, ◌≡◌, Bool, true, false, not, ◌&&◌, List, [], ◌∷◌, ◌++◌, ltb, eqb, length}
use Rattle.annex_b.specs.Units.{units_from}

abbrev pub start_code : List ℕ
start_code = 0 ∷ 0 ∷ 0 ∷ 1 ∷ []

abbrev pub starts_with_of : List ℕ → List ℕ → Bool
starts_with_of [] s = true
starts_with_of (x ∷ xs) [] = false
starts_with_of (x ∷ xs) (y ∷ s) = eqb y x && starts_with_of xs s

abbrev pub summed : List (List ℕ) → ℕ
summed [] = 0
summed (u ∷ us) = 4 + length u + summed us

abbrev pub none_empty : List (List ℕ) → Bool
none_empty [] = true
none_empty (u ∷ us) = ltb 0 (length u) && none_empty us

unfoldable pub made_from : List ℕ → ℕ → Bool
made_from s at = none_empty (units_from s at) && eqb (at + summed (units_from s at)) (length s)

abbrev pub made_of_units_of : List ℕ → Bool
made_of_units_of s = made_from s 0

pub data Made : List ℕ → Type 0 where
  none : Made []
  more : (a b c d : ℕ) (u rest : List ℕ) → length u ≡ a * 16777216 + b * 65536 + c * 256 + d → 0 < length u → Made rest → Made (a ∷ b ∷ c ∷ d ∷ (u ++ rest))

unfoldable pub is_avc_format_of : List ℕ → Bool
is_avc_format_of s = ltb 0 (length s) && not (starts_with_of (0 ∷ 0 ∷ 1 ∷ []) s) && not (starts_with_of (0 ∷ 0 ∷ 0 ∷ 1 ∷ []) s) && made_of_units_of s
