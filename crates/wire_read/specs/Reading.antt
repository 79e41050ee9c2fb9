-- Reading the AVC444 payload (R110 to R117): "a little-endian u32 whose low 30 bits are the first stream's size and whose top two bits
-- say what is carried (0 both, 1 luma only, 2 chroma only), then one or two AVC420 streams. Each has a u32 count, that many rectangles of
-- four u16, that many pairs of quantiser and quality bytes, and the H.264 bytes to the stream's end."
--
--   kind_of s, first_size_of s     what the payload's first number says is carried, and the first stream's size
--   carries_luma, carries_chroma  which streams a kind carries
--   follows kind size other     "In kind 0 the second stream is what follows the first": past the first stream there, `other` elsewhere
--   luma_end s, chroma_start s    where the luma stream ends, which starts at 4, and where the chroma stream starts, which ends at the
--                               payload's end: "in kinds 1 and 2 the one stream runs to the payload's end"
--   stream_in s a e              where the parts of the stream from a to e stand
--   past_end s a e               "a count, rectangle or quantiser pair runs past its stream"
--   FoundValues, found_of        the number and a stream's places, for each case of a stream looked for
--   stream_at, carried_at         these of the stream from a to e, where it is carried
--   head_number_of s              "9 for a payload below 4 bytes, then 8 for kind 3, then 9 when the size, in any kind, runs past the payload"
--   streams_past s               10, by a stream that is carried
--   read_number_of s              the number of the call
--   read_of s                    its answer: `carried_of` where the number is 0, else `refused_with`, all 0 but the number
--   PartsInside x n             the parts of a stream lie in n bytes, each where the one before it ends
use Rattle.std.specs.Prelude.{ℕ, ◌+◌, ◌*◌, ◌-◌, ◌≤◌, ◌≡◌, Bool, cond, not, ◌&&◌, ◌||◌, List, [], ◌∷◌, ◌++◌, ltb, eqb, length, Option, Some, None}
use Rattle.lent.specs.Refusal.{refusal}
use Rattle.wire_fields.specs.Fields.{u32_at, size_in, kind_in}
use Rattle.wire_read.specs.declared.Stream.{Stream}
use Rattle.wire_read.specs.declared.Avc444.{Avc444}

abbrev pub kind_of : List ℕ → ℕ
kind_of s = kind_in (u32_at s 0)

abbrev pub first_size_of : List ℕ → ℕ
first_size_of s = size_in (u32_at s 0)

abbrev pub carries_luma : ℕ → Bool
carries_luma kind = not (eqb kind 2)

abbrev pub carries_chroma : ℕ → Bool
carries_chroma kind = not (eqb kind 1)

abbrev pub follows : ℕ → ℕ → ℕ → ℕ
follows kind size other = cond (eqb kind 0) (4 + size) other

abbrev pub luma_end : List ℕ → ℕ
luma_end s = follows (kind_of s) (first_size_of s) (length s)

abbrev pub chroma_start : List ℕ → ℕ
chroma_start s = follows (kind_of s) (first_size_of s) 4

abbrev pub stream_in : List ℕ → ℕ → ℕ → Stream
stream_in s a e = record {
  count = u32_at s a;
  rects = a + 4;
  pairs = a + 4 + 8 * u32_at s a;
  «data» = a + 4 + 10 * u32_at s a;
  length = e - (a + 4 + 10 * u32_at s a);
}

abbrev pub no_stream : Stream
no_stream = record { count = 0; rects = 0; pairs = 0; «data» = 0; length = 0 }

unfoldable pub past_end : List ℕ → ℕ → ℕ → Bool
past_end s a e = ltb e (a + 4) || ltb e (a + 4 + 10 * u32_at s a)

pub record FoundValues : Type 0 where
  pub number : ℕ
  pub stream : Stream

abbrev pub whole_stream : Stream → FoundValues
whole_stream x = record { number = 0; stream = x }

abbrev pub past_stream : FoundValues
past_stream = record { number = 10; stream = no_stream }

abbrev pub found_of : Option Stream → FoundValues
found_of (Some x) = whole_stream x
found_of None = past_stream

abbrev pub stream_at : List ℕ → ℕ → ℕ → FoundValues
stream_at s a e = cond (past_end s a e) past_stream (whole_stream (stream_in s a e))

abbrev pub carried_at : Bool → List ℕ → ℕ → ℕ → FoundValues
carried_at is s a e = cond is (stream_at s a e) (whole_stream no_stream)

abbrev pub head_tests : List ℕ → List (Bool × ℕ)
head_tests s = (ltb (length s) 4, 9) ∷ (eqb (kind_of s) 3, 8) ∷ (ltb (length s) (4 + first_size_of s), 9) ∷ []

unfoldable pub head_number_of : List ℕ → ℕ
head_number_of s = refusal (head_tests s)

abbrev pub streams_past : List ℕ → Bool
streams_past s = (carries_luma (kind_of s) && past_end s 4 (luma_end s)) || (carries_chroma (kind_of s) && past_end s (chroma_start s) (length s))

unfoldable pub read_number_of : List ℕ → ℕ
read_number_of s = refusal (head_tests s ++ ((streams_past s, 10) ∷ []))

abbrev pub refused_with : ℕ → Avc444
refused_with n = record { number = n; kind = 0; luma = no_stream; chroma = no_stream }

abbrev pub carried_of : List ℕ → Avc444
carried_of s = record {
  number = 0;
  kind = kind_of s;
  luma = cond (carries_luma (kind_of s)) (stream_in s 4 (luma_end s)) no_stream;
  chroma = cond (carries_chroma (kind_of s)) (stream_in s (chroma_start s) (length s)) no_stream;
}

unfoldable pub read_of : List ℕ → Avc444
read_of s = cond (eqb (read_number_of s) 0) (carried_of s) (refused_with (read_number_of s))

pub record PartsInside (x : Stream) (n : ℕ) : Type 0 where
  pub pairs_follow : x.pairs ≡ x.rects + 8 * x.count
  pub data_follow : x.«data» ≡ x.pairs + 2 * x.count
  pub ends : x.«data» + x.length ≤ n
