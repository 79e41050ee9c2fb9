-- `to_rgba_rows::picture_rows::even_row` meets its contract. The invariant: where the row is even, and in whatever row the pixels before the loop were
-- done, those before `col` are; a part that is to come starts at an even column; and the samples before `col` are counted, of either plane.
-- `smooth_more` and `counted_more` are one turn. Assumes nothing.
use borrow.Author.Rules.{rules}
use Prim.Native.Nat.{ℕ, ◌+◌, ◌*◌}
use native.Mathlib.Omega.{arith}
use mathlib.Core.Path.{◌≡◌, refl, ◌∙◌}
use mathlib.Core.List.{List}
use Rattle.lent.proofs.ByPart.{part_long}
use Rattle.lent.proofs.Pixels.{done_at, done_all}
use Rattle.to_rgba_rows.proofs.Filtered.{Counted, counted_head, counted_more}
use Rattle.to_rgba_rows.proofs.PictureParts.{smooth_more}
use Rattle.to_rgba_rows.proofs.picture_rows.even_row.Goals.{After-even_part-filtered}
use Rattle.to_rgba_rows.proofs.picture_rows.even_row.Goals as goal

-- a part more is counted, of either plane
counted : (e : After-even_part-filtered) → let a = e.args in
    let now : List ℕ → ℕ → Type 0 = λ p. Counted a.stride a.row a.left p (e.loop-col.col + e.min-m.result) in
    now a.u.now (e.loop-col.filtered_u + e.even_part-filtered.result.u) × now a.v.now (e.loop-col.filtered_v + e.even_part-filtered.result.v)
counted e =
    let a = e.args in
    let more = counted_more a.stride a.row a.left e.loop-col.col e.min-m.result _ refl e.loop-col.invariant.1 in (
      more a.u.now _ _ e.loop-col.invariant.4 (λ t. (e.even_part-filtered.ensures.value t).u),
      more a.v.now _ _ e.loop-col.invariant.5 (λ t. (e.even_part-filtered.ensures.value t).v),
    )

pub even_head-requires : goal.even_head-requires
even_head-requires c =
    record {
      row_fits = record { exact = search rules; inside = search rules; y_fits = search rules; u_fits = omega arith; v_fits = omega arith };
      n_nonzero = search rules;
    }

pub loop-col-init : goal.loop-col-init
loop-col-init c = (omega arith, omega arith, omega arith, λ even xs e h. h, counted_head _ _ _ _, counted_head _ _ _ _)

pub even_part-filtered-requires : goal.even_part-filtered-requires
even_part-filtered-requires c =
    let even = c.loop-col.invariant.1 in
    let long = part_long c.loop-col.out (4 * c.loop-col.col) (4 * (c.loop-col.col + c.min-m.result)) (omega arith) (omega arith) in record {
      exact = omega arith;
      few = omega arith;
      y_has = omega arith;
      u_has = omega arith;
      v_has = omega arith;
      u_below = omega arith;
      v_below = omega arith;
    }

pub overflow_add-filtered_u : goal.overflow_add-filtered_u
overflow_add-filtered_u c = omega (arith, (counted (goal.at.overflow_add-filtered_u c).After-even_part-filtered).0.0)

pub overflow_add-filtered_v : goal.overflow_add-filtered_v
overflow_add-filtered_v c = omega (arith, (counted (goal.at.overflow_add-filtered_v c).After-even_part-filtered).1.0, c.ranges.n)

pub loop-col-preserved : goal.loop-col-preserved
loop-col-preserved c =
    let col = c.loop-col.col in
    let a = c.args in
    let whole : c.min-m.result ≡ 64 = omega arith in
    let more = counted (goal.at.loop-col-preserved c).After-even_part-filtered in (
      omega arith,
      omega arith,
      omega arith,
      λ even xs e h. done_at _ _ (col + c.min-m.result) (col + 64) (smooth_more a.stride a.row a.left a.y.now a.u.now a.v.now xs col c.min-m.result _ refl
          (omega arith) (c.loop-col.invariant.3 even xs e h) even c.loop-col.invariant.1 c.even_part-filtered.ensures.out_after) (omega arith),
      rw whole at more.0,
      rw whole at more.1,
    )

pub returns-2 : goal.returns-2
returns-2 c =
    let a = c.args in
    let col = c.loop-col.col in
    let all : col + c.min-m.result ≡ a.n = omega arith in
    let more = counted (goal.at.returns-2 c).After-even_part-filtered in
    let in-u = rw all at more.0 in
    let in-v = rw all at more.1 in record {
      out_after = λ even. smooth_more a.stride a.row a.left a.y.now a.u.now a.v.now a.out.now col c.min-m.result _ refl
          (omega arith) (c.loop-col.invariant.3 even a.out.now (omega arith) c.even_head.ensures) even c.loop-col.invariant.1
          c.even_part-filtered.ensures.out_after ∙ done_all _ _ (col + c.min-m.result) (omega arith);
      value = λ even t. record { u = in-u.1 even t; v = in-v.1 even t };
    }

pub returns : goal.returns
returns c =
    let a = c.args in
    let all : c.loop-col.col ≡ a.n = omega arith in
    let in-u = rw all at c.loop-col.invariant.4 in
    let in-v = rw all at c.loop-col.invariant.5 in record {
      out_after = λ even. c.loop-col.invariant.3 even a.out.now (omega arith) c.even_head.ensures ∙ done_all _ _ c.loop-col.col (omega arith);
      value = λ even t. record { u = in-u.1 even t; v = in-v.1 even t };
    }
