-- `wire_write::put_payload` meets its contract: three parts of the output, one after the other.
-- Assumes nothing.
use Prim.Native.Nat.{ℕ, ◌-◌}
use mathlib.Core.Path.{ap, ◌∙◌}
use mathlib.Core.Bool.{Bool, cond}
use mathlib.Core.List.{List, []}
use Rattle.wire_fields.specs.Fields.{u32_bytes, info_of}
use Rattle.wire_fields.specs.Kinds.{number_of}
use Rattle.wire_read.specs.Format.{bytes_of}
use Rattle.wire_write.specs.Writing.{given_by, parts_given}
use Rattle.wire_write.proofs.Writing.{payload_written}
use Rattle.wire_write.proofs.put_payload.Goals as goal

pub returns : goal.returns
returns c =
    let a = c.args in
    let l = given_by a.luma in
    let m = given_by a.chroma in
    payload_written (number_of a.kind) l m a.middle a.end a.out.now c.requires
    (c.put_u32.ensures ∙ ap u32_bytes (c.info.ensures ∙ ap (λ (k : ℕ). info_of k (a.middle - 4)) c.number.ensures))
    (c.put_carried.ensures ∙ ap (λ (b : Bool). cond {A = List ℕ} b (bytes_of (parts_given l)) []) c.has_luma.ensures)
    (c.put_carried-2.ensures ∙ ap (λ (b : Bool). cond {A = List ℕ} b (bytes_of (parts_given m)) []) c.has_chroma.ensures)
