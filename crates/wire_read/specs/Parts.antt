-- The parts of a stream of an AVC444 payload (R115: "The answer shows the rectangles, pairs and H.264 bytes as parts of the
-- payload"), and one rectangle or pair of it.
--
--   stream_of w a, places_of s w      one of the two streams of an answer, and of the payload s: all 0 where it is not carried, and in a refusal
--   here_in s w                      the number of the payload, and where that stream's parts stand
--   parts_at s x, parts_of s w        the bytes of a stream's count, of its rectangles, of its pairs, and its H.264 bytes, each where it stands
--   carries w kind, stream_bytes s w whether a kind carries the stream, and all its bytes, if it is carried
--   rectangle_at_of s w i             rectangle i: present where i is below the count, four u16
--   pair_at_of s w i                  pair i: a quantiser byte and a quality byte
--   numbers_of s w out               out with the rectangles' numbers in front, four for each
--   copy_number_of s w n              the payload's number, then 6: n numbers are fewer than the rectangles have
--   CopyRectsOutcome s w out        how the copy ends, refusals included
use Rattle.std.specs.Prelude.{ℕ, ◌+◌, ◌*◌, ◌-◌, Bool, true, false, cond, not, List, [], ◌∷◌, ltb, eqb, length, get_or, take, drop}
use Rattle.lent.specs.declared.Answer.{Answer}
use Rattle.lent.specs.Outcome.{Outcome, answer_of, lent_after}
use Rattle.lent.specs.Paint.{paint}
use Rattle.lent.specs.Refusal.{refusal}
use Rattle.wire_fields.specs.Fields.{u16_at, quantiser_in}
use Rattle.wire_read.specs.declared.Stream.{Stream}
use Rattle.wire_read.specs.declared.Avc444.{Avc444}
use Rattle.wire_read.specs.Reading.{kind_of, carries_luma, carries_chroma, read_number_of, read_of}
use Rattle.wire_read.specs.Format.{Parts, bytes_of}
use Rattle.wire_read.specs.declared.parts.Which.{Which}
use Rattle.wire_read.specs.declared.parts.Which.TheVariants.{Luma, Chroma}
use Rattle.wire_read.specs.declared.parts.Here.{Here}
use Rattle.wire_read.specs.declared.parts.Rectangle.{Rectangle}
use Rattle.wire_read.specs.declared.parts.Pair.{Pair}

abbrev pub stream_of : Which → Avc444 → Stream
stream_of Luma a = a.luma
stream_of Chroma a = a.chroma

abbrev pub places_of : List ℕ → Which → Stream
places_of s w = stream_of w (read_of s)

abbrev pub here_in : List ℕ → Which → Here
here_in s w = record { number = read_number_of s; places = places_of s w }

abbrev pub parts_at : List ℕ → Stream → Parts
parts_at s x = record {
  count = take 4 (drop (x.rects - 4) s);
  rects = take (8 * x.count) (drop x.rects s);
  pairs = take (2 * x.count) (drop x.pairs s);
  h264 = take x.length (drop x.«data» s);
}

abbrev pub parts_of : List ℕ → Which → Parts
parts_of s w = parts_at s (places_of s w)

abbrev pub carries : Which → ℕ → Bool
carries Luma = carries_luma
carries Chroma = carries_chroma

abbrev pub stream_bytes : List ℕ → Which → List ℕ
stream_bytes s w = cond (carries w (kind_of s)) (bytes_of (parts_of s w)) []

abbrev pub rectangle_in : ℕ → List ℕ → ℕ → Rectangle
rectangle_in n s at = record {
  number = n;
  present = true;
  left = u16_at s at;
  top = u16_at s (at + 2);
  right = u16_at s (at + 4);
  bottom = u16_at s (at + 6);
}

abbrev pub no_rectangle : ℕ → Rectangle
no_rectangle n = record { number = n; present = false; left = 0; top = 0; right = 0; bottom = 0 }

unfoldable pub rectangle_at_of : List ℕ → Which → ℕ → Rectangle
rectangle_at_of s w i = cond (ltb i (places_of s w).count) (rectangle_in (read_number_of s) s ((places_of s w).rects + 8 * i)) (no_rectangle (read_number_of s))

abbrev pub pair_in : ℕ → List ℕ → ℕ → Pair
pair_in n s at = record {
  number = n;
  present = true;
  value = (quantiser_in (get_or s at 0)).value;
  reserved = (quantiser_in (get_or s at 0)).reserved;
  progressive = (quantiser_in (get_or s at 0)).progressive;
  quality = get_or s (at + 1) 0;
}

abbrev pub no_pair : ℕ → Pair
no_pair n = record { number = n; present = false; value = 0; reserved = false; progressive = false; quality = 0 }

unfoldable pub pair_at_of : List ℕ → Which → ℕ → Pair
pair_at_of s w i = cond (ltb i (places_of s w).count) (pair_in (read_number_of s) s ((places_of s w).pairs + 2 * i)) (no_pair (read_number_of s))

unfoldable pub numbers_of : List ℕ → Which → List ℕ → List ℕ
numbers_of s w out = paint (λ k. ltb k (4 * (places_of s w).count)) (λ k. u16_at s ((places_of s w).rects + 2 * k)) out

unfoldable pub copy_number_of : List ℕ → Which → ℕ → ℕ
copy_number_of s w n = refusal ((not (eqb (read_number_of s) 0), read_number_of s) ∷ (ltb n (4 * (places_of s w).count), 6) ∷ [])

abbrev pub CopyRectsOutcome : List ℕ → Which → List ℕ → Answer → List (List ℕ) → Type 0
CopyRectsOutcome s w out =
    Outcome (answer_of (copy_number_of s w (length out)) (4 * (places_of s w).count)) (lent_after (copy_number_of s w (length out)) out (numbers_of s w out) ∷ [])
