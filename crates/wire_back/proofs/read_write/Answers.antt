-- `wire_back::read_write` meets its contract: a refusal is answered with nothing written; else neither copy nor the writer
-- refuses, and the lists' fronts are the numbers of the payload's rectangles. That the payload is of bytes is known from its type.
-- Assumes nothing.
use Prim.Native.Nat.{◌≤◌}
use mathlib.Core.Path.{sym}
use lib.ListN.{length}
use lib.Seq.{length-take-le}
use Rattle.lent.proofs.Answered.{never_0, refused_as}
use Rattle.wire_back.proofs.Numbers.{bytes_at}
use Rattle.wire_back.proofs.Again.{none_refuses, list_fits, refused_back, written_back}
use Rattle.wire_back.proofs.read_write.Goals.{After-copy_rects-luma, After-copy_rects-chroma}
use Rattle.wire_back.proofs.read_write.Goals as goal

pub returns-in-Err : goal.returns-in-Err
returns-in-Err c =
    let a = c.args in
    rw c.refused.ensures
    (refused_back a.payload.now a.luma_rects.now a.chroma_rects.now a.out.now (bytes_at a.payload.now (λ i. (c.type_inv.payload i).fits)) (refused_as c.check.ensures c.in-Err.is) (never_0 _))

-- each list is long enough to lend its front
luma_fits : (c : After-copy_rects-luma) → c.copy_rects-luma.result.count ≤ length c.copy_rects-luma.new.out
luma_fits c =
    let a = c.args in
    list_fits a.payload.now _ a.luma_rects.now c.copy_rects-luma.ensures (none_refuses a.payload.now a.luma_rects.now a.chroma_rects.now a.out.now (sym c.in_default.ensures)).0

chroma_fits : (c : After-copy_rects-chroma) → c.copy_rects-chroma.result.count ≤ length c.copy_rects-chroma.new.out
chroma_fits c =
    let a = c.args in
    list_fits a.payload.now _ a.chroma_rects.now c.copy_rects-chroma.ensures (none_refuses a.payload.now a.luma_rects.now a.chroma_rects.now a.out.now (sym c.in_default.ensures)).1.0

pub slice_bounds-write_again-end : goal.slice_bounds-write_again-end
slice_bounds-write_again-end c = luma_fits (goal.at.slice_bounds-write_again-end c).After-copy_rects-luma

pub slice_bounds-write_again-end-2 : goal.slice_bounds-write_again-end-2
slice_bounds-write_again-end-2 c = sym (length-take-le _ _ (luma_fits (goal.at.slice_bounds-write_again-end-2 c).After-copy_rects-luma))

pub slice_bounds-write_again-end-3 : goal.slice_bounds-write_again-end-3
slice_bounds-write_again-end-3 c = chroma_fits (goal.at.slice_bounds-write_again-end-3 c).After-copy_rects-chroma

pub slice_bounds-write_again-end-4 : goal.slice_bounds-write_again-end-4
slice_bounds-write_again-end-4 c = sym (length-take-le _ _ (chroma_fits (goal.at.slice_bounds-write_again-end-4 c).After-copy_rects-chroma))

pub returns : goal.returns
returns c =
    let a = c.args in
    written_back a.payload.now a.luma_rects.now a.chroma_rects.now a.out.now (bytes_at a.payload.now (λ i. (c.type_inv.payload i).fits)) (sym c.in_default.ensures)
    c.copy_rects-luma.ensures c.copy_rects-chroma.ensures c.write_again.ensures
