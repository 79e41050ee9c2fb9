-- Writing the AVC444 payload (R120, R121): "From a kind, two rectangle lists, their quantiser and quality pairs and the H.264 bytes,
-- write the payload of E1." "For kinds 1 and 2 the parts of the stream not carried are ignored. The count is the bytes written."
--
--   Given, given                what is lent for a stream: a rectangle list, its pairs, its H.264 bytes
--   given_by x                  what is lent, as the code has it
--   sizes_given g, parts_given g  their lengths, and the parts of the stream that is written of them
--   size_for kind l              the size that the standard wants: the first stream's bytes in kinds 0 and 1, 0 in kind 2
--   Placed kind l c m e n       a payload has room in n bytes, and each number of it where it goes; luma ends at m, chroma at e
--   payload_of kind l c          the payload: its first number, and the streams that are carried
--   given_number_of kind l c n    the number of the call, where n bytes are lent for the output
--   WriteOutcome kind l c out   how the call ends, refusals included: the payload, and the output's bytes after it as they were
use Rattle.std.specs.Prelude.{ℕ, ◌+◌, ◌/◌, ◌^◌, ◌≤◌, ◌<◌, ◌≡◌, true, cond, List, [], ◌∷◌, ◌++◌, length, drop}
use Rattle.lent.specs.declared.Answer.{Answer}
use Rattle.lent.specs.Outcome.{Outcome, answer_of, lent_after}
use Rattle.wire_fields.specs.Fields.{u32_bytes, info_of}
use Rattle.wire_read.specs.Reading.{carries_luma, carries_chroma}
use Rattle.wire_read.specs.Format.{Parts, bytes_of}
use Rattle.wire_write.specs.Stream.{parts_from}
use Rattle.wire_write.specs.declared.StreamInput.{StreamInput}
use Rattle.wire_write.specs.declared.number.StreamSizes.{StreamSizes}
use Rattle.wire_write.specs.Number.{bytes_for, write_number_of}

pub record Given : Type 0 where
  pub rects : List ℕ
  pub pairs : List ℕ
  pub h264 : List ℕ

abbrev pub given : List ℕ → List ℕ → List ℕ → Given
given rs ps hs = record { rects = rs; pairs = ps; h264 = hs }

abbrev pub given_by : StreamInput → Given
given_by x = given x.rects.now x.pairs.now x.«data».now

abbrev pub sizes_given : Given → StreamSizes
sizes_given g = record { rects = length g.rects; pairs = length g.pairs; «data» = length g.h264 }

abbrev pub parts_given : Given → Parts
parts_given g = parts_from g.rects g.pairs g.h264

abbrev pub size_for : ℕ → Given → ℕ
size_for kind l = cond (carries_luma kind) (bytes_for (sizes_given l)) 0

pub record Placed (kind : ℕ) (l c : Given) (middle end n : ℕ) : Type 0 where
  pub luma_ends : middle ≡ 4 + size_for kind l
  pub chroma_ends : end ≡ middle + cond (carries_chroma kind) (bytes_for (sizes_given c)) 0
  pub inside : end ≤ n
  pub size_fits : size_for kind l < 2 ^ 30
  pub luma_count_fits : carries_luma kind ≡ true → length l.rects / 4 < 2 ^ 32
  pub chroma_count_fits : carries_chroma kind ≡ true → length c.rects / 4 < 2 ^ 32

unfoldable pub payload_of : ℕ → Given → Given → List ℕ
payload_of kind l c = u32_bytes (info_of kind (size_for kind l)) ++ (cond (carries_luma kind) (bytes_of (parts_given l)) [] ++ cond (carries_chroma kind) (bytes_of (parts_given c)) [])

abbrev pub given_number_of : ℕ → Given → Given → ℕ → ℕ
given_number_of kind l c n = write_number_of kind (sizes_given l) (sizes_given c) n

abbrev pub WriteOutcome : ℕ → Given → Given → List ℕ → Answer → List (List ℕ) → Type 0
WriteOutcome kind l c out =
    Outcome (answer_of (given_number_of kind l c (length out)) (length (payload_of kind l c)))
    (lent_after (given_number_of kind l c (length out)) out (payload_of kind l c ++ drop (length (payload_of kind l c)) out) ∷ [])
