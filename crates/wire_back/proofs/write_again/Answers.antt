-- `wire_back::write_again` meets its contract: the kind and the parts that the writer is given are the payload's.
-- Assumes nothing.
use Prim.Native.Nat.{ℕ}
use mathlib.Core.Path.{◌≡◌, transport}
use mathlib.Core.List.{List}
use Rattle.lent.specs.declared.Answer.{Answer}
use Rattle.wire_read.specs.declared.Avc444.{Avc444}
use Rattle.wire_read.specs.Reading.{read_of}
use Rattle.wire_read.specs.declared.parts.Which.TheVariants.{Luma, Chroma}
use Rattle.wire_read.specs.Parts.{parts_of}
use Rattle.wire_write.specs.Writing.{given, WriteOutcome}
use Rattle.wire_back.specs.Back.{WriteAgain}
use Rattle.wire_back.proofs.write_again.Goals as goal

-- the writer's end, of what was read and of the parts that were cut
module _ (s ls cs out : List ℕ) {a : Avc444} {ps hs qs gs : List ℕ} {r : Answer} {after : List (List ℕ)} where
  parts_again : a ≡ read_of s → ps ≡ (parts_of s Luma).pairs → hs ≡ (parts_of s Luma).h264 → qs ≡ (parts_of s Chroma).pairs → gs ≡ (parts_of s Chroma).h264
      → WriteOutcome a.kind (given ls ps hs) (given cs qs gs) out r after → WriteAgain s ls cs out r after
  parts_again is p h q g o = transport (λ i. WriteOutcome (is i).kind (given ls (p i) (h i)) (given cs (q i) (g i)) out r after) o

pub returns : goal.returns
returns c =
    let a = c.args in
    parts_again a.payload.now a.luma_rects.now a.chroma_rects.now a.out.now c.read-a.ensures.answer
    c.pairs.ensures.holds c.h264.ensures.holds c.pairs-2.ensures.holds c.h264-2.ensures.holds c.write.ensures
