-- Document 01's worked line, by computation: "00 00 00 02 67 42 is length-prefixed and becomes 00 00 00 01 67 42".
-- Assumes nothing.
use Prim.Native.Nat.{ℕ}
use mathlib.Core.Path.{◌≡◌, refl}
use mathlib.Core.Bool.{true}
use mathlib.Core.List.{List, [], ◌∷◌}
use Rattle.annex_b.specs.Units.{unit_length_of, unit_at, units_in, units_from}
use Rattle.annex_b.specs.Format.{made_from, is_avc_format_of}
use Rattle.annex_b.specs.AnnexB.{count_of, annex_b_of}

abbrev pub line : List ℕ
line = 0 ∷ 0 ∷ 0 ∷ 2 ∷ 103 ∷ 66 ∷ []

-- the output holds what it held after these 6 bytes, however long it is
pub payload_line : (is_avc_format_of line ≡ true) × (count_of line ≡ 6) × ((a b c d e f : ℕ) (rest : List ℕ) → annex_b_of line (a ∷ b ∷ c ∷ d ∷ e ∷ f ∷ rest) ≡ 0 ∷ 0 ∷ 0 ∷ 1 ∷ 103 ∷ 66 ∷ rest)
unfolding is_avc_format_of made_from annex_b_of count_of units_from units_in unit_at unit_length_of
payload_line = (refl, refl, λ a b c d e f rest. refl)
