-- The units of an H.264 payload (R100, R101): each is a big-endian u32 length and that many bytes.
--
--   unit_length_of s at   the big-endian u32 at a position
--   unit_end s at        where the unit at a position ends
--   unit_at s at         a whole unit stands at a position; where not, it stops: "at a unit that runs past the end or at fewer than 4 bytes"
--   Values              the number, and the values that a step answers; a_unit and no_unit are the two kinds there are
--   values_of            what they are for each case of a step
--   step_of s at         what a step from a position answers, in these values
--   units_from s at      the bytes of each unit from a position on, until the stop. It recurses by a bound on their number, which two laws of
--                       proofs/UnitLaws.antt take away: where a whole unit stands they are that unit and the units from its end on
--                       (`units_more`), and where none stands there are none (`units_none`)
use Rattle.std.specs.Prelude.{ℕ, zero, suc, ◌+◌, ◌*◌, ◌-◌, Bool, true, false, cond, ◌&&◌, List, [], ◌∷◌, leb, length, get_or, take, drop, Option, Some, None}
use Rattle.annex_b.specs.declared.units.Unit.{Unit}

unfoldable pub unit_length_of : List ℕ → ℕ → ℕ
unit_length_of s at = get_or s at 0 * 16777216 + get_or s (at + 1) 0 * 65536 + get_or s (at + 2) 0 * 256 + get_or s (at + 3) 0

abbrev pub unit_end : List ℕ → ℕ → ℕ
unit_end s at = at + 4 + unit_length_of s at

unfoldable pub unit_at : List ℕ → ℕ → Bool
unit_at s at = leb (at + 4) (length s) && leb (unit_end s at) (length s)

-- a step refuses nothing, so its number is 0; whether there is a unit; its bounds, and the position past it
pub record Values : Type 0 where
  pub number : ℕ
  pub found : Bool
  pub start : ℕ
  pub end : ℕ
  pub next : ℕ

abbrev pub a_unit : ℕ → ℕ → ℕ → Values
a_unit a e next = record { number = 0; found = true; start = a; end = e; next = next }

abbrev pub no_unit : Values
no_unit = record { number = 0; found = false; start = 0; end = 0; next = 0 }

abbrev pub values_of : Option Unit → Values
values_of (Some u) = a_unit u.start u.end u.next.at
values_of None = no_unit

unfoldable pub step_of : List ℕ → ℕ → Values
step_of s at = cond (unit_at s at) (a_unit (at + 4) (unit_end s at) (unit_end s at)) no_unit

-- at most n units
unfoldable pub units_in : ℕ → List ℕ → ℕ → List (List ℕ)
units_in zero s at = []
units_in (suc n) s at = cond (unit_at s at) (take (unit_length_of s at) (drop (at + 4) s) ∷ units_in n s (unit_end s at)) []

-- all of them: a unit takes at least 4 bytes, so there are no more units than bytes
unfoldable pub units_from : List ℕ → ℕ → List (List ℕ)
units_from s at = units_in (length s - at) s at
