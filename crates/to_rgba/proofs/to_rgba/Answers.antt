-- `to_rgba::to_rgba` meets its contract: a refusal writes nothing, nor does an empty rectangle, and any other lies inside the picture.
-- Assumes nothing.
use Prim.Native.Nat.{◌*◌, ◌≤◌}
use native.Mathlib.Omega.{arith}
use mathlib.Core.Path.{◌≡◌, refl, sym, ◌∙◌}
use lib.ListN.{length}
use borrow.Author.Tests.{eqb-false}
use Rattle.lent.proofs.Answered.{accepted, refused_as, never_0}
use Rattle.picture.proofs.Sizes.{plane_small}
use Rattle.to_rgba.specs.Picture.{to_rgba_count_of, to_rgba_number_of, pixels_of}
use Rattle.to_rgba.proofs.Picture.{counted, numbered, written, filtered_is, rows_fit, empty_unchanged, empty_unfiltered}
use Rattle.to_rgba.proofs.Ends.{pixels_refused, pixels_answered}
use Rattle.to_rgba.proofs.to_rgba.Goals.{After-clipped-h, In_default}
use Rattle.to_rgba.proofs.to_rgba.Goals as goal

-- columns and rows of the clipped rectangle are few, so that nothing wraps
few : (c : After-clipped-h) → c.clipped-n.result * c.clipped-h.result ≤ 4294967296
few c = plane_small (omega arith) (omega arith)

pub overflow_mul-count : goal.overflow_mul-count
overflow_mul-count c = omega (arith, few (goal.at.overflow_mul-count c).After-clipped-h)

pub overflow_mul-count-2 : goal.overflow_mul-count-2
overflow_mul-count-2 c = omega (arith, few (goal.at.overflow_mul-count-2 c).After-clipped-h)

-- an accepted call has the number 0
zero : (c : In_default) → let a = c.args in
    0 ≡ to_rgba_number_of a.size (to_rgba_count_of a.size a.rect) (length a.y.now) (length a.u.now) (length a.v.now) (length a.out.now)
zero c =
    let a = c.args in
    numbered a.size a.rect c.clipped-n.ensures c.clipped-h.ensures _ _ _ _ (sym (accepted c.check-checked.ensures c.in_default.is))

pub returns-in-Err : goal.returns-in-Err
returns-in-Err c =
    let a = c.args in
    let number = c.number.ensures in
    let is = numbered a.size a.rect c.clipped-n.ensures c.clipped-h.ensures _ _ _ _ (number ∙ refused_as c.check-checked.ensures c.in-Err.is) in
    pixels_refused _ _ is _ _ _ (λ z. never_0 _ (sym number ∙ z)) c.none.ensures

pub returns-then-count-eq0 : goal.returns-then-count-eq0
returns-then-count-eq0 c =
    let a = c.args in
    let empty = sym (counted a.size a.rect c.clipped-n.ensures c.clipped-h.ensures) ∙ c.if-count-eq0.true in
    let unfiltered = empty_unfiltered a.size a.rect empty in
    pixels_answered _ _ (zero (goal.at.returns-then-count-eq0 c).In_default) _ _ _ refl
    (c.none-then-count-eq0.ensures ∙ (λ i. pixels_of 0 (sym empty i) (unfiltered a.u.now i) (unfiltered a.v.now i)))
    (empty_unchanged a.size a.rect empty a.y.now a.u.now a.v.now a.out.now)

pub put_rows-filtered-requires : goal.put_rows-filtered-requires
put_rows-filtered-requires c =
    let a = c.args in
    rows_fit a.size a.rect c.clipped-n.ensures c.clipped-h.ensures c.stride.ensures.0 c.rows.ensures.0
    _ _ _ _ (sym (accepted c.check-checked.ensures c.in_default.is)) refl (omega (arith, eqb-false)) (omega arith)

pub returns : goal.returns
returns c =
    let a = c.args in
    let across = c.clipped-n.ensures in
    let down = c.clipped-h.ensures in
    let wide = c.stride.ensures.0 in
    let in-rect = filtered_is a.size a.rect across down wide in
    pixels_answered _ _ (zero (goal.at.returns c).In_default) _ _ _ refl
    (λ i. record {
      number = 0;
      count = counted a.size a.rect across down i;
      filtered_u = ((λ t. (c.put_rows-filtered.ensures.value t).u) ∙ in-rect a.u.now) i;
      filtered_v = ((λ t. (c.put_rows-filtered.ensures.value t).v) ∙ in-rect a.v.now) i;
    })
    (c.put_rows-filtered.ensures.out_after ∙ written a.size a.rect across down wide _ _ _ _)
