-- The payload is its first number and the streams that are carried, part after part.
-- Assumes nothing.
use Prim.Native.Nat.{ℕ, ◌-◌}
use native.Mathlib.Omega.{arith}
use mathlib.Core.Path.{◌≡◌, refl, sym, ap, ◌∙◌}
use mathlib.Core.Bool.{Bool, true, false, cond}
use mathlib.Core.List.{List, [], ◌++◌, append_assoc}
use borrow.Rule.Slice.PartMut.{put_mid, post_of}
use lib.ListN.{length, drop, length-append}
use Rattle.wire_write.proofs.Front.{fronted, part_next}
use Rattle.wire_fields.specs.Fields.{u32_bytes, info_of}
use Rattle.wire_fields.proofs.Bytes.{u32_long}
use Rattle.wire_read.specs.Reading.{carries_luma, carries_chroma}
use Rattle.wire_read.specs.Format.{bytes_of}
use Rattle.wire_write.proofs.Stream.{stream_long_lem}
use Rattle.wire_write.specs.Number.{bytes_for, payload_bytes}
use Rattle.wire_write.specs.Writing.{Given, sizes_given, parts_given, size_for, payload_of, Placed}

-- a stream's bytes, where it is carried
carried_long : (is : Bool) (g : Given) → length (cond {A = List ℕ} is (bytes_of (parts_given g)) []) ≡ cond is (bytes_for (sizes_given g)) 0
carried_long true g = stream_long_lem g.rects g.pairs g.h264
carried_long false g = refl

module _ (kind : ℕ) (l c : Given) where
  abbrev head : List ℕ
  head = u32_bytes (info_of kind (size_for kind l))

  abbrev luma : List ℕ
  luma = cond {A = List ℕ} (carries_luma kind) (bytes_of (parts_given l)) []

  abbrev chroma : List ℕ
  chroma = cond {A = List ℕ} (carries_chroma kind) (bytes_of (parts_given c)) []

  pub payload_long : length (payload_of kind l c) ≡ payload_bytes kind (sizes_given l) (sizes_given c)
  unfolding payload_of
  payload_long =
      let a = length-append head (luma ++ chroma) in
      let b = length-append luma chroma in
      let d = u32_long (info_of kind (size_for kind l)) in
      let e = carried_long (carries_luma kind) l in
      let f = carried_long (carries_chroma kind) c in
      omega arith

  module _ (middle end : ℕ) (out : List ℕ) (p : Placed kind l c middle end (length out)) where
    luma_end_lem : length (head ++ luma) ≡ middle
    luma_end_lem =
        let a = length-append head luma in
        let d = u32_long (info_of kind (size_for kind l)) in
        let e = carried_long (carries_luma kind) l in
        omega (arith, p)

    chroma_end_lem : length ((head ++ luma) ++ chroma) ≡ end
    chroma_end_lem =
        let a = length-append (head ++ luma) chroma in
        let d = luma_end_lem in
        let e = carried_long (carries_chroma kind) c in
        omega (arith, p)

    size_is : middle - 4 ≡ size_for kind l
    size_is = omega (arith, p)

    luma_written : {x ls : List ℕ} → x ≡ u32_bytes (info_of kind (middle - 4)) → ls ≡ luma → put_mid 4 (middle - 4) (x ++ post_of 0 4 out) ls ≡ fronted (head ++ luma) out
    luma_written {x} {ls} e f =
        let d = u32_long (info_of kind (size_for kind l)) in
        let is : x ≡ head = e ∙ ap (λ (n : ℕ). u32_bytes (info_of kind n)) size_is in
        (λ i. put_mid 4 (middle - 4) (is i ++ drop 4 out) (f i))
        ∙ ap (λ (n : ℕ). put_mid 4 (middle - 4) (head ++ drop n out) luma) (sym d)
        ∙ part_next head luma out 4 (middle - 4) d (carried_long (carries_luma kind) l ∙ sym size_is)

    pub payload_written : {x ls cs : List ℕ} → x ≡ u32_bytes (info_of kind (middle - 4)) → ls ≡ luma → cs ≡ chroma
        → put_mid middle (end - middle) (put_mid 4 (middle - 4) (x ++ post_of 0 4 out) ls) cs ≡ payload_of kind l c ++ drop end out
    unfolding payload_of
    payload_written {x} {ls} {cs} e f g =
        let size : end - middle ≡ cond (carries_chroma kind) (bytes_for (sizes_given c)) 0 = omega (arith, p) in
        (λ i. put_mid middle (end - middle) (luma_written e f i) (g i))
        ∙ part_next (head ++ luma) chroma out middle (end - middle) luma_end_lem (carried_long (carries_chroma kind) c ∙ sym size)
        ∙ (λ i. append_assoc head luma chroma i ++ drop (chroma_end_lem i) out)
