-- The conversion to Annex B (R102 to R104): "Conversion writes 00 00 00 01 and the unit; a length of 0 writes the
-- start code alone; it stops at a unit that runs past the end or at fewer than 4 bytes."
--
--   count_of s            the bytes written: the units' lengths summed, with 4 for each
--   annexed us           00 00 00 01 and the unit, for each
--   annex_b_of s out       what a long enough output holds afterwards: what is written, and its other bytes as they were
--   annex_number s out    6 where the output is shorter than what would be written, else 0
use Rattle.std.specs.Prelude.{ℕ, List, [], ◌∷◌, ◌++◌, ltb, length, drop}
use Rattle.lent.specs.Refusal.{refusal}
use Rattle.annex_b.specs.Units.{units_from}
use Rattle.annex_b.specs.Format.{start_code, summed}

unfoldable pub count_of : List ℕ → ℕ
count_of s = summed (units_from s 0)

abbrev pub annexed : List (List ℕ) → List ℕ
annexed [] = []
annexed (u ∷ us) = start_code ++ u ++ annexed us

unfoldable pub annex_b_of : List ℕ → List ℕ → List ℕ
annex_b_of s out = annexed (units_from s 0) ++ drop (count_of s) out

unfoldable pub annex_number : List ℕ → List ℕ → ℕ
annex_number s out = refusal ((ltb (length out) (count_of s), 6) ∷ [])
