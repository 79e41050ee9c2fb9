-- Where nothing is refused, and what the parts have room for then.
-- Assumes nothing.
use Prim.Native.Nat.{ℕ, ◌/◌, ◌^◌, ◌≤◌, ◌<◌}
use native.Mathlib.Omega.{arith}
use mathlib.Core.Path.{◌≡◌}
use mathlib.Core.Bool.{Bool, true, false, cond, ◌&&◌, false≢true}
use mathlib.Core.Logic.{◌↔◌}
use mathlib.Core.List.{[], ◌∷◌}
use lib.Dec.{ltb}
use borrow.Author.Tests.{ltb-false, leb-false, le-ltb}
use Rattle.lent.specs.Refusal.{NoneHolds}
use Rattle.lent.proofs.Exactly.{nor}
use Rattle.lent.proofs.Refusal.{refusal_none}
use Rattle.wire_read.specs.Reading.{carries_luma, carries_chroma}
use Rattle.wire_write.specs.declared.number.StreamSizes.{StreamSizes}
use Rattle.wire_write.specs.Number.{bytes_for, count_large, stream_long, first_carried, payload_bytes, lists_wrong, too_long, output_short, write_number_of}

pub record Writable (kind : ℕ) (l c : StreamSizes) (n : ℕ) : Type 0 where
  pub known : kind ≤ 2
  pub even : lists_wrong kind l c ≡ false
  pub short : too_long kind l c ≡ false
  pub room : payload_bytes kind l c ≤ n

module _ (kind : ℕ) (l c : StreamSizes) (n : ℕ) where
  pub write_0_exactly : (write_number_of kind l c n ≡ 0) ↔ Writable kind l c n
  unfolding write_number_of
  write_0_exactly = (
    λ e. let h = none.0 e in record { known = ltb-false _ _ h.0; even = h.1.0; short = h.1.1.0; room = ltb-false _ _ h.1.1.1.0 },
    λ a. none.1 (le-ltb _ _ a.known, (a.even, (a.short, (le-ltb _ _ a.room, tt)))),
  )
    where
      none : (write_number_of kind l c n ≡ 0) ↔ NoneHolds ((ltb 2 kind, 8) ∷ (lists_wrong kind l c, 7) ∷ (too_long kind l c, 11) ∷ (output_short kind l c n, 6) ∷ [])
      none = refusal_none ((ltb 2 kind, 8) ∷ (lists_wrong kind l c, 7) ∷ (too_long kind l c, 11) ∷ (output_short kind l c n, 6) ∷ []) tt

  module _ (a : Writable kind l c n) where
    no_long : stream_long (first_carried kind l c) ≡ false
    no_long = ((nor (stream_long (first_carried kind l c)) _).0 a.short).0

    no_large : ((carries_luma kind && count_large l) ≡ false) × ((carries_chroma kind && count_large c) ≡ false)
    no_large = (nor (carries_luma kind && count_large l) (carries_chroma kind && count_large c)).0 ((nor (stream_long (first_carried kind l c)) _).0 a.short).1

    -- the size field has room for the first stream
    pub size_small : cond (carries_luma kind) (bytes_for l) 0 < 2 ^ 30
    size_small = go (carries_luma kind) no_long
      where
        go : (b : Bool) → stream_long (cond b l c) ≡ false → cond b (bytes_for l) 0 < 2 ^ 30
        go true e = leb-false (2 ^ 30) (bytes_for l) e
        go false e = omega arith

    count_small : (b : Bool) (z : StreamSizes) → (b && count_large z) ≡ false → b ≡ true → z.rects / 4 < 2 ^ 32
    count_small true z e h = leb-false (2 ^ 32) (z.rects / 4) e
    count_small false z e h = absurd (false≢true h)

    -- and each count has room for its own
    pub luma_count_small : carries_luma kind ≡ true → l.rects / 4 < 2 ^ 32
    luma_count_small = count_small (carries_luma kind) l no_large.0

    pub chroma_count_small : carries_chroma kind ≡ true → c.rects / 4 < 2 ^ 32
    chroma_count_small = count_small (carries_chroma kind) c no_large.1
