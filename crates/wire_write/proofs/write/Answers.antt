-- `wire_write::write` meets its contract: a refusal writes nothing, and else everything has room.
-- Assumes nothing.
use Prim.Native.Nat.{ℕ, ◌+◌}
use native.Mathlib.Omega.{arith}
use mathlib.Core.Path.{◌≡◌, sym, ap, ◌∙◌}
use mathlib.Core.Bool.{cond}
use mathlib.Core.List.{List, [], ◌∷◌, ◌++◌}
use lib.ListN.{length, drop}
use Rattle.lent.specs.Outcome.{answer_of}
use Rattle.std.specs.Prelude.{Result}
use Rattle.lent.specs.declared.refused.Refusal.{Refusal}
use Rattle.wire_fields.specs.declared.kinds.Kind.{Kind}
use Rattle.wire_write.specs.declared.number.StreamSizes.{StreamSizes}
use Rattle.lent.specs.Refused.{number_in}
use Rattle.lent.proofs.Answered.{never_0, accepted, refused_as, refused_above}
use Rattle.lent.proofs.Ends.{answer_refused, lent_refused}
use Rattle.wire_fields.specs.Kinds.{number_of}
use Rattle.wire_read.specs.Reading.{carries_chroma}
use Rattle.wire_write.specs.Number.{bytes_for, write_number_of}
use Rattle.wire_write.specs.Writing.{Given, given_by, sizes_given, size_for, payload_of, given_number_of}
use Rattle.wire_write.proofs.NumberLaws.{Writable, write_0_exactly, size_small, luma_count_small, chroma_count_small}
use Rattle.wire_write.proofs.Writing.{payload_long}
use Rattle.wire_write.proofs.write.Goals.{In-Ok, After-carried_bytes-middle, After-carried_bytes}
use Rattle.wire_write.proofs.write.Goals as goal

-- the number, from what was lent
says : (x : Result Kind Refusal) (kind n : ℕ) (l c : Given) {y z : StreamSizes} → number_in x ≡ write_number_of kind y z n → y ≡ sizes_given l → z ≡ sizes_given c → number_in x ≡ given_number_of kind l c n
says x kind n l c e f g = e ∙ (λ i. write_number_of kind (f i) (g i) n)

-- what is known once the kind is
good : (c : In-Ok) → let a = c.args in Writable (number_of c.in-Ok.kind) (sizes_given (given_by a.luma)) (sizes_given (given_by a.chroma)) (length a.out.now)
good c =
    let a = c.args in
    (write_0_exactly _ _ _ _).0 (ap (λ (k : ℕ). given_number_of k (given_by a.luma) (given_by a.chroma) (length a.out.now)) c.in-Ok.ensures.kind ∙ accepted (says _ a.kind (length a.out.now) (given_by a.luma) (given_by a.chroma) c.check.ensures.number c.sizes-l.ensures c.sizes-c.ensures) c.in-Ok.is)

-- how many bytes each stream has
luma_bytes : (c : After-carried_bytes-middle) → c.carried_bytes-middle.result ≡ size_for (number_of c.in-Ok.kind) (given_by c.args.luma)
luma_bytes c = c.carried_bytes-middle.ensures ∙ (λ i. cond (c.has_luma.ensures i) (bytes_for (c.sizes-l.ensures i)) 0)

chroma_bytes : (c : After-carried_bytes) → c.carried_bytes.result ≡ cond (carries_chroma (number_of c.in-Ok.kind)) (bytes_for (sizes_given (given_by c.args.chroma))) 0
chroma_bytes c = c.carried_bytes.ensures ∙ (λ i. cond (c.has_chroma.ensures i) (bytes_for (c.sizes-c.ensures i)) 0)

pub returns-in-Err : goal.returns-in-Err
returns-in-Err c =
    let a = c.args in
    let n = says _ a.kind (length a.out.now) (given_by a.luma) (given_by a.chroma) c.check.ensures.number c.sizes-l.ensures c.sizes-c.ensures in
    let e = refused_as n c.in-Err.is in
    record {
      answer = c.refused.ensures ∙ answer_refused _ e (never_0 _);
      buffers = ap (λ (l : List ℕ). l ∷ []) (lent_refused _ _ _ (refused_above n c.in-Err.is));
    }

pub carried_bytes-middle-requires : goal.carried_bytes-middle-requires
carried_bytes-middle-requires c =
    let r = (good (goal.at.carried_bytes-middle-requires c).In-Ok).room in
    rw (c.has_luma.ensures, c.sizes-l.ensures) (omega arith)

pub overflow_add-middle : goal.overflow_add-middle
overflow_add-middle c =
    let r = (good (goal.at.overflow_add-middle c).In-Ok).room in
    let e = luma_bytes (goal.at.overflow_add-middle c).After-carried_bytes-middle in
    omega arith

pub carried_bytes-requires : goal.carried_bytes-requires
carried_bytes-requires c =
    let r = (good (goal.at.carried_bytes-requires c).In-Ok).room in
    rw (c.has_chroma.ensures, c.sizes-c.ensures) (omega arith)

pub overflow_add-end : goal.overflow_add-end
overflow_add-end c =
    let at = goal.at.overflow_add-end c in
    let r = (good at.In-Ok).room in
    let e = luma_bytes at.After-carried_bytes-middle in
    let f = chroma_bytes at.After-carried_bytes in
    omega arith

pub put_payload-requires : goal.put_payload-requires
put_payload-requires c =
    let at = goal.at.put_payload-requires c in
    let g = good at.In-Ok in
    let e = luma_bytes at.After-carried_bytes-middle in
    let f = chroma_bytes at.After-carried_bytes in
    let r = g.room in
    record {
      luma_ends = ap (λ (n : ℕ). 4 + n) e;
      chroma_ends = ap (λ (n : ℕ). 4 + c.carried_bytes-middle.result + n) f;
      inside = omega arith;
      size_fits = size_small _ _ _ _ g;
      luma_count_fits = luma_count_small _ _ _ _ g;
      chroma_count_fits = chroma_count_small _ _ _ _ g;
    }

pub returns : goal.returns
returns c =
    let a = c.args in
    let at = goal.at.returns c in
    let l = given_by a.luma in
    let m = given_by a.chroma in
    let is = c.in-Ok.ensures.kind in
    let zero_number = accepted (says _ a.kind (length a.out.now) (given_by a.luma) (given_by a.chroma) c.check.ensures.number c.sizes-l.ensures c.sizes-c.ensures) c.in-Ok.is in
    let e = luma_bytes at.After-carried_bytes-middle in
    let f = chroma_bytes at.After-carried_bytes in
    let long : 4 + c.carried_bytes-middle.result + c.carried_bytes.result ≡ length (payload_of a.kind l m) =
    (λ i. 4 + e i + f i) ∙ sym (payload_long (number_of c.in-Ok.kind) l m) ∙ ap (λ (k : ℕ). length (payload_of k l m)) is in
    rw zero_number (record {
      answer = c.done.ensures ∙ ap (λ (n : ℕ). answer_of 0 n) long;
      buffers = ap (λ (r : List ℕ). r ∷ []) (c.put_payload.ensures ∙ (λ i. payload_of (is i) l m ++ drop (long i) a.out.now));
    })
