-- The numbers of a call that writes an AVC444 payload (R122): "8 when the kind is above 2, then 7, also when there isn't one
-- pair for each rectangle, then 11 when the first stream carried, its count, rectangles and pairs included, is 2 to the power 30 bytes or
-- longer or a rectangle count doesn't fit in 32 bits, then 6". "For kinds 1 and 2 the parts of the stream not carried are ignored."
--
--   bytes_for z                  the bytes of a stream, its count, rectangles and pairs included
--   uneven z                    the list is not in fours, or there is not one pair for each rectangle
--   count_large z, stream_long z  the rectangle count does not fit in 32 bits; the stream is 2^30 bytes or longer
--   first_carried kind l c       the first stream carried
--   lacks room z                a room is less than the stream's bytes
--   payload_bytes kind l c       the bytes of the payload: its first number, and the streams that are carried
--   lists_wrong, too_long, output_short    7, 11 and 6, each of what is carried alone
--   write_number_of kind l c n    the number of the call, where n bytes are lent for the output
use Rattle.std.specs.Prelude.{ℕ, ◌+◌, ◌*◌, ◌/◌, ◌%◌, ◌^◌, Bool, cond, not, ◌&&◌, ◌||◌, [], ◌∷◌, ltb, leb, eqb}
use Rattle.lent.specs.Refusal.{refusal}
use Rattle.wire_read.specs.Reading.{carries_luma, carries_chroma}
use Rattle.wire_write.specs.Stream.{stream_length}
use Rattle.wire_write.specs.declared.number.StreamSizes.{StreamSizes}

abbrev pub bytes_for : StreamSizes → ℕ
bytes_for z = stream_length z.rects z.pairs z.«data»

abbrev pub uneven : StreamSizes → Bool
uneven z = not (eqb (z.rects % 4) 0) || not (eqb z.pairs (2 * (z.rects / 4)))

abbrev pub count_large : StreamSizes → Bool
count_large z = leb (2 ^ 32) (z.rects / 4)

abbrev pub stream_long : StreamSizes → Bool
stream_long z = leb (2 ^ 30) (bytes_for z)

abbrev pub first_carried : ℕ → StreamSizes → StreamSizes → StreamSizes
first_carried kind l c = cond (carries_luma kind) l c

abbrev pub lacks : ℕ → StreamSizes → Bool
lacks room z = ltb room (bytes_for z)

abbrev pub payload_bytes : ℕ → StreamSizes → StreamSizes → ℕ
payload_bytes kind l c = 4 + cond (carries_luma kind) (bytes_for l) 0 + cond (carries_chroma kind) (bytes_for c) 0

abbrev pub lists_wrong : ℕ → StreamSizes → StreamSizes → Bool
lists_wrong kind l c = (carries_luma kind && uneven l) || (carries_chroma kind && uneven c)

abbrev pub too_long : ℕ → StreamSizes → StreamSizes → Bool
too_long kind l c = stream_long (first_carried kind l c) || ((carries_luma kind && count_large l) || (carries_chroma kind && count_large c))

abbrev pub output_short : ℕ → StreamSizes → StreamSizes → ℕ → Bool
output_short kind l c n = ltb n (payload_bytes kind l c)

unfoldable pub write_number_of : ℕ → StreamSizes → StreamSizes → ℕ → ℕ
write_number_of kind l c n = refusal ((ltb 2 kind, 8) ∷ (lists_wrong kind l c, 7) ∷ (too_long kind l c, 11) ∷ (output_short kind l c n, 6) ∷ [])
