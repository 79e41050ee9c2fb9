-- Writing and reading (R123, R124): "Reading what was written gives back the same parts, each list as its little-endian bytes; a
-- payload that E1 accepts, whose size field is the standard's and whose first stream carried is shorter than 2 to the power 30 bytes, is
-- written back to the same bytes."
--
--   Back s a kind l c           a reader's answer a gives back from s what was given: the kind, and the parts of each stream that is carried;
--                               the other one stands nowhere
--   write_read_of kind l c n      the answer of a call that writes into n bytes and reads what it wrote
--   WriteReadOutcome kind l c out    how that call ends: by the definitions of the two calls, and with `Back` where nothing was refused
--   numbers_in bs                the numbers of 16 bits whose bytes these are
--   given_in s w                 the parts of a payload's stream, as they are given to a writer
--   AllBelow k ns               each number is below k: bytes are below 256, numbers of 16 bits below 2^16
--   Standard s                  the size field is the standard's, and the first stream carried is shorter than 2^30 bytes
--   rewritten_of s               the payload that is written of what was read of s
--   sizes_at x                   how much a stream that was read gives to a writer: four numbers and two bytes of pairs for each rectangle,
--                               and its H.264 bytes
--   WriteAgain s ls cs out      how a call ends that writes s again, with ls and cs for the lists of its rectangles
--   refuses n                   a number as a test: it refuses where it is not 0
--   read_write_number_of s n m k   the number of a call that reads s and writes it back, the first that refuses: the copy of the luma
--                               rectangles into n numbers, of the chroma ones into m, each with the payload's number first, and the
--                               writer, into k bytes
--   read_write_buffers_of n ...    both lists and the output after it, the number being n
--   RoomFor s ls cs out         each list has room for its rectangles, and the output for the payload
--   ReadWriteOutcome s ls cs out   how that call ends: by the definitions of the calls, a refusal altering no lent byte; and a standard payload
--                               that is accepted is not refused where there is room, and what is written of it is the payload itself
use Rattle.std.specs.Prelude.{ℕ, ◌*◌, ◌^◌, ◌≤◌, ◌<◌, ◌≡◌, Bool, true, false, cond, not, List, [], ◌∷◌, ◌++◌, eqb, length, take, drop}
use Rattle.lent.specs.declared.Answer.{Answer}
use Rattle.lent.specs.Outcome.{Outcome, answer_of, lent_after}
use Rattle.lent.specs.Refusal.{refusal}
use Rattle.wire_fields.specs.Fields.{u16_at}
use Rattle.wire_read.specs.declared.Stream.{Stream}
use Rattle.wire_read.specs.declared.Avc444.{Avc444}
use Rattle.wire_read.specs.Reading.{kind_of, first_size_of, carries_luma, carries_chroma, no_stream, read_number_of, refused_with, read_of}
use Rattle.wire_read.specs.declared.parts.Which.{Which}
use Rattle.wire_read.specs.declared.parts.Which.TheVariants.{Luma, Chroma}
use Rattle.wire_read.specs.Parts.{places_of, parts_at, parts_of, numbers_of, copy_number_of}
use Rattle.wire_write.specs.declared.number.StreamSizes.{StreamSizes}
use Rattle.wire_write.specs.Number.{bytes_for, first_carried}
use Rattle.wire_write.specs.Writing.{Given, given, sizes_given, parts_given, size_for, payload_of, given_number_of, WriteOutcome}

pub record Back (s : List ℕ) (a : Avc444) (kind : ℕ) (l c : Given) : Type 0 where
  pub accepted : a.number ≡ 0
  pub kind_back : a.kind ≡ kind
  pub luma_back : carries_luma kind ≡ true → parts_at s a.luma ≡ parts_given l
  pub chroma_back : carries_chroma kind ≡ true → parts_at s a.chroma ≡ parts_given c
  pub no_luma : carries_luma kind ≡ false → a.luma ≡ no_stream
  pub no_chroma : carries_chroma kind ≡ false → a.chroma ≡ no_stream

abbrev pub write_read_of : ℕ → Given → Given → ℕ → Avc444
write_read_of kind l c n = cond (eqb (given_number_of kind l c n) 0) (read_of (payload_of kind l c)) (refused_with (given_number_of kind l c n))

pub record WriteReadOutcome (kind : ℕ) (l c : Given) (out : List ℕ) (r : Avc444) (after : List ℕ) : Type 0 where
  pub ends : Outcome (write_read_of kind l c (length out))
      (lent_after (given_number_of kind l c (length out)) out (payload_of kind l c ++ drop (length (payload_of kind l c)) out) ∷ []) r (after ∷ [])
  pub back : given_number_of kind l c (length out) ≡ 0 → Back after r kind l c

abbrev pub numbers_in : List ℕ → List ℕ
numbers_in [] = []
numbers_in (a ∷ []) = []
numbers_in (a ∷ b ∷ bs) = u16_at (a ∷ b ∷ []) 0 ∷ numbers_in bs

abbrev pub given_in : List ℕ → Which → Given
given_in s w = given (numbers_in (parts_of s w).rects) (parts_of s w).pairs (parts_of s w).h264

abbrev pub AllBelow : ℕ → List ℕ → Type 0
AllBelow k [] = Unit {0}
AllBelow k (n ∷ ns) = (n < k) × AllBelow k ns

pub record Standard (s : List ℕ) : Type 0 where
  pub size_is : first_size_of s ≡ size_for (kind_of s) (given_in s Luma)
  pub short : bytes_for (first_carried (kind_of s) (sizes_given (given_in s Luma)) (sizes_given (given_in s Chroma))) < 2 ^ 30

abbrev pub rewritten_of : List ℕ → List ℕ
rewritten_of s = payload_of (kind_of s) (given_in s Luma) (given_in s Chroma)

abbrev pub sizes_at : Stream → StreamSizes
sizes_at x = record { rects = 4 * x.count; pairs = 2 * x.count; «data» = x.length }

abbrev pub WriteAgain : List ℕ → List ℕ → List ℕ → List ℕ → Answer → List (List ℕ) → Type 0
WriteAgain s ls cs =
    WriteOutcome (read_of s).kind (given ls (parts_of s Luma).pairs (parts_of s Luma).h264) (given cs (parts_of s Chroma).pairs (parts_of s Chroma).h264)

abbrev pub refuses : ℕ → Bool × ℕ
refuses n = (not (eqb n 0), n)

unfoldable pub read_write_number_of : List ℕ → ℕ → ℕ → ℕ → ℕ
read_write_number_of s n m k =
    refusal (refuses (copy_number_of s Luma n) ∷ refuses (copy_number_of s Chroma m) ∷ refuses (given_number_of (kind_of s) (given_in s Luma) (given_in s Chroma) k) ∷ [])

abbrev pub read_write_buffers_of : ℕ → List ℕ → List ℕ → List ℕ → List ℕ → List (List ℕ)
read_write_buffers_of n s ls cs out =
    lent_after n ls (numbers_of s Luma ls) ∷ lent_after n cs (numbers_of s Chroma cs) ∷ lent_after n out (rewritten_of s ++ drop (length (rewritten_of s)) out) ∷ []

pub record RoomFor (s ls cs out : List ℕ) : Type 0 where
  pub luma_room : 4 * (places_of s Luma).count ≤ length ls
  pub chroma_room : 4 * (places_of s Chroma).count ≤ length cs
  pub out_room : length s ≤ length out

pub record ReadWriteOutcome (s ls cs out : List ℕ) (r : Answer) (ls' cs' after : List ℕ) : Type 0 where
  pub ends : Outcome (answer_of (read_write_number_of s (length ls) (length cs) (length out)) (length (rewritten_of s)))
      (read_write_buffers_of (read_write_number_of s (length ls) (length cs) (length out)) s ls cs out) r (ls' ∷ cs' ∷ after ∷ [])
  pub accepted : read_number_of s ≡ 0 → Standard s → RoomFor s ls cs out → r.number ≡ 0
  pub same : r.number ≡ 0 → Standard s → (r.count ≡ length s) × (take (length s) after ≡ s)
