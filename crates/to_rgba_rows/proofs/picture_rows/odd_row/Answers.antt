-- `to_rgba_rows::picture_rows::odd_row` meets its contract. The invariant: where the row is odd, the first k pixels are done. `plain_more` is one
-- turn: no pixel of an odd row is filtered. Assumes nothing.
use Prim.Native.Nat.{◌+◌, ◌*◌}
use native.Mathlib.Omega.{arith}
use mathlib.Core.Path.{refl, ◌∙◌}
use Rattle.lent.proofs.ByPart.{part_long}
use Rattle.lent.proofs.Pixels.{done_none, done_at, done_all}
use Rattle.to_rgba_rows.proofs.Rules.{odd_row_off}
use Rattle.to_rgba_rows.proofs.PictureParts.{plain_more}
use Rattle.to_rgba_rows.proofs.picture_rows.odd_row.Goals.{After-part}
use Rattle.to_rgba_rows.proofs.picture_rows.odd_row.Goals as goal

pub loop-k-init : goal.loop-k-init
loop-k-init c = (omega arith, λ odd. done_none _ _)

pub part-requires : goal.part-requires
part-requires c =
    let long = part_long c.loop-k.out (4 * c.loop-k.k) (4 * (c.loop-k.k + c.min-m.result)) (omega arith) (omega arith) in
    record { exact = omega arith; few = omega arith; y_has = omega arith; u_has = omega arith; v_has = omega arith }

pub loop-k-preserved : goal.loop-k-preserved
loop-k-preserved c =
    let k = c.loop-k.k in
    let a = c.args in (
      omega arith,
      λ odd. done_at _ _ (k + c.min-m.result) (k + 64) (plain_more a.stride a.row a.left a.y.now a.u.now a.v.now a.out.now k c.min-m.result _ refl
          (omega arith) (c.loop-k.invariant.1 odd) (λ i h. odd_row_off a.row (a.left + (k + i)) odd) c.part.ensures) (omega arith),
    )

pub returns : goal.returns
returns c = λ odd. c.loop-k.invariant.1 odd ∙ done_all _ _ c.loop-k.k (omega arith)

pub returns-2 : goal.returns-2
returns-2 c = λ odd.
    let k = c.loop-k.k in
    let a = c.args in
    plain_more a.stride a.row a.left a.y.now a.u.now a.v.now a.out.now k c.min-m.result _ refl
    (omega arith) (c.loop-k.invariant.1 odd) (λ i h. odd_row_off a.row (a.left + (k + i)) odd) c.part.ensures
    ∙ done_all _ _ (k + c.min-m.result) (omega arith)
