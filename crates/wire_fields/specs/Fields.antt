-- The numbers of an AVC444 payload (R110, R111, R113): "All numbers are little-endian"; "a little-endian u32 whose low 30 bits are the first
-- stream's size and whose top two bits say what is carried"; "The quantiser byte is six bits of value and two flags".
--
--   u16_at s at, u32_at s at      the little-endian number whose first byte stands at `at`
--   u16_bytes n, u32_bytes n      a number's bytes, the lowest first
--   size_in info, kind_in info    the low 30 bits of the first number of a payload, and its top two bits
--   info_of kind size            the number that has two bits of kind and 30 bits of size
--   quantiser_in b               the six bits of value of a quantiser byte, and its two flags, bits 6 and 7
--   bit_of flag                  a flag as a bit
--   quantiser_byte_of q           the byte that has them
use Rattle.std.specs.Prelude.{ℕ, ◌+◌, ◌*◌, ◌/◌, ◌%◌, ◌^◌, Bool, cond, List, [], ◌∷◌, eqb, get_or}
use Rattle.wire_fields.specs.declared.Quantiser.{Quantiser}

unfoldable pub u16_at : List ℕ → ℕ → ℕ
u16_at s at = get_or s at 0 + get_or s (at + 1) 0 * 256

unfoldable pub u32_at : List ℕ → ℕ → ℕ
u32_at s at = get_or s at 0 + get_or s (at + 1) 0 * 256 + get_or s (at + 2) 0 * 65536 + get_or s (at + 3) 0 * 16777216

unfoldable pub u16_bytes : ℕ → List ℕ
u16_bytes n = n % 256 ∷ n / 256 % 256 ∷ []

unfoldable pub u32_bytes : ℕ → List ℕ
u32_bytes n = n % 256 ∷ n / 256 % 256 ∷ n / 65536 % 256 ∷ n / 16777216 % 256 ∷ []

abbrev pub size_in : ℕ → ℕ
size_in info = info % 2 ^ 30

abbrev pub kind_in : ℕ → ℕ
kind_in info = info / 2 ^ 30

abbrev pub info_of : ℕ → ℕ → ℕ
info_of kind size = kind % 4 * 2 ^ 30 + size % 2 ^ 30

abbrev pub quantiser_in : ℕ → Quantiser
quantiser_in b = record { value = b % 64; reserved = eqb (b / 64 % 2) 1; progressive = eqb (b / 128) 1 }

abbrev pub bit_of : Bool → ℕ
bit_of flag = cond flag 1 0

abbrev pub quantiser_byte_of : Quantiser → ℕ
quantiser_byte_of q = q.value % 64 + bit_of q.reserved * 64 + bit_of q.progressive * 128
