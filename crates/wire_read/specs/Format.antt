-- The AVC444 payload put together, as R111, R112 and R114 say it: what a reader has to take apart.
--
--   Parts, bytes_of p        the parts of a stream, each as its bytes, and the stream: its count, its rectangles, its pairs, its H.264 bytes
--   Sound p                 the count is a u32, and there are that many rectangles of four u16 and that many pairs of bytes
--   places_at a p            where they stand, if the stream starts at a
--   Payload s a             s is a payload of the format, and a says which streams it carries and where their parts stand. The first number
--                           h has four bytes; in kind 0 its size is the first stream's bytes, in kinds 1 and 2 a size within the payload
use Rattle.std.specs.Prelude.{ℕ, ◌+◌, ◌*◌, ◌≤◌, ◌≡◌, List, ◌++◌, length}
use Rattle.wire_fields.specs.Fields.{u32_at}
use Rattle.wire_read.specs.declared.Stream.{Stream}
use Rattle.wire_read.specs.declared.Avc444.{Avc444}
use Rattle.wire_read.specs.Reading.{kind_of, first_size_of, no_stream}

pub record Parts : Type 0 where
  pub count : List ℕ
  pub rects : List ℕ
  pub pairs : List ℕ
  pub h264 : List ℕ

abbrev pub bytes_of : Parts → List ℕ
bytes_of p = p.count ++ (p.rects ++ (p.pairs ++ p.h264))

pub record Sound (p : Parts) : Type 0 where
  pub four : length p.count ≡ 4
  pub rects_fit : length p.rects ≡ 8 * u32_at p.count 0
  pub pairs_fit : length p.pairs ≡ 2 * u32_at p.count 0

abbrev pub places_at : ℕ → Parts → Stream
places_at a p = record {
  count = u32_at p.count 0;
  rects = a + 4;
  pairs = a + 4 + length p.rects;
  «data» = a + 4 + length p.rects + length p.pairs;
  length = length p.h264;
}

pub data Payload : List ℕ → Avc444 → Type 0 where
  both : (h : List ℕ) (l c : Parts) → length h ≡ 4 → kind_of h ≡ 0 → first_size_of h ≡ length (bytes_of l) → Sound l → Sound c
      → Payload (h ++ (bytes_of l ++ bytes_of c)) (record { number = 0; kind = 0; luma = places_at 4 l; chroma = places_at (4 + length (bytes_of l)) c })
  luma : (h : List ℕ) (l : Parts) → length h ≡ 4 → kind_of h ≡ 1 → first_size_of h ≤ length (bytes_of l) → Sound l
      → Payload (h ++ bytes_of l) (record { number = 0; kind = 1; luma = places_at 4 l; chroma = no_stream })
  chroma : (h : List ℕ) (c : Parts) → length h ≡ 4 → kind_of h ≡ 2 → first_size_of h ≤ length (bytes_of c) → Sound c
      → Payload (h ++ bytes_of c) (record { number = 0; kind = 2; luma = no_stream; chroma = places_at 4 c })
