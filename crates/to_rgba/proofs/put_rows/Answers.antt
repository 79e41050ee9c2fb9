-- `to_rgba::put_rows` meets its contract. The invariant: the first r rows of the output are written, and their filtered samples are counted,
-- of either plane. Assumes nothing.
use Prim.Native.Nat.{ℕ, ◌+◌, ◌*◌, ◌≤◌, ◌<◌}
use native.Mathlib.Omega.{arith}
use mathlib.Core.Path.{◌≡◌, refl, ◌∙◌}
use mathlib.Core.List.{List}
use borrow.Author.Rules.{rules}
use lib.ListN.{length}
use Rattle.lent.proofs.Counts.{total_none}
use Rattle.lent.proofs.ByPart.{part_long}
use Rattle.to_rgba.specs.Picture.{filtered_rows_of}
use Rattle.to_rgba.proofs.Pictured.{row_room, pictured_none, pictured_more, pictured_all}
use Rattle.to_rgba.proofs.Picture.{filtered_more}
use Rattle.to_rgba.proofs.put_rows.Goals.{After-put_row-filtered, At-loop-r}
use Rattle.to_rgba.proofs.put_rows.Goals as goal

-- the row that is written is within the output
room : (l : At-loop-r) → let a = l.args in l.loop-r.r < a.h → l.loop-r.r * (4 * a.n) + 4 * a.n ≤ length a.out.now
room l lt = row_room l.args.n l.args.h l.loop-r.r _ lt l.requires.room

-- a row more is counted, of either plane, and the counts fit
counted : (e : After-put_row-filtered) → let a = e.args in
    let now : List ℕ → ℕ → Type 0 = λ p k. (k ≤ length a.out.now) × (k ≡ filtered_rows_of a.stride a.left a.top a.n (e.loop-r.r + 1) p) in
    now a.u.now (e.loop-r.filtered_u + e.put_row-filtered.result.u) × now a.v.now (e.loop-r.filtered_v + e.put_row-filtered.result.v)
counted e =
    let a = e.args in
    let more = filtered_more a.stride a.left a.top a.n a.h e.loop-r.r (length a.out.now) e.loop-r-test.true e.requires.room in (
      more a.u.now _ _ e.loop-r.invariant.2 (λ t. (e.put_row-filtered.ensures.value t).u),
      more a.v.now _ _ e.loop-r.invariant.3 (λ t. (e.put_row-filtered.ensures.value t).v),
    )

pub loop-r-init : goal.loop-r-init
loop-r-init c = (refl, pictured_none _ _ _ _, total_none _, total_none _)

pub overflow_mul-start : goal.overflow_mul-start
overflow_mul-start c = omega (arith, room (goal.at.overflow_mul-start c).At-loop-r (omega arith))

pub overflow_add-start : goal.overflow_add-start
overflow_add-start c = omega (arith, room (goal.at.overflow_add-start c).At-loop-r (omega arith))

pub slice_bounds-put_row-end : goal.slice_bounds-put_row-end
slice_bounds-put_row-end c = omega (arith, room (goal.at.slice_bounds-put_row-end c).At-loop-r (omega arith))

pub put_row-filtered-requires : goal.put_row-filtered-requires
put_row-filtered-requires c =
    let fits = c.requires in
    let long = room (goal.at.put_row-filtered-requires c).At-loop-r c.loop-r-test.true in
    let exact = part_long c.loop-r.out (c.loop-r.r * (4 * c.args.n)) (c.loop-r.r * (4 * c.args.n) + 4 * c.args.n) (omega arith) (omega arith) in record {
      pixel_rows_fit = record {
        room = omega arith;
        some = omega arith;
        small = omega arith;
        inside = omega arith;
        below = omega arith;
        y_fits = omega arith;
        u_fits = omega arith;
        v_fits = omega arith;
        even_stride = omega arith;
        even_rows = omega arith;
      };
      out_len = omega arith;
    }

pub overflow_add-filtered_u : goal.overflow_add-filtered_u
overflow_add-filtered_u c = omega (arith, (counted (goal.at.overflow_add-filtered_u c).After-put_row-filtered).0.0)

pub overflow_add-filtered_v : goal.overflow_add-filtered_v
overflow_add-filtered_v c = omega (arith, (counted (goal.at.overflow_add-filtered_v c).After-put_row-filtered).1.0)

pub loop-r-preserved : goal.loop-r-preserved
loop-r-preserved c =
    let fits = c.requires in (
      search rules,
      pictured_more _ _ _ _ c.loop-r.r (omega arith) (omega arith) c.loop-r.invariant.1 c.put_row-filtered.ensures.out_after refl,
      (counted (goal.at.loop-r-preserved c).After-put_row-filtered).0.1,
      (counted (goal.at.loop-r-preserved c).After-put_row-filtered).1.1,
    )

pub returns : goal.returns
returns c =
    let all : c.loop-r.r ≡ c.args.h = omega arith in
    let in-u = rw all at c.loop-r.invariant.2 in
    let in-v = rw all at c.loop-r.invariant.3 in
    record {
      out_after = c.loop-r.invariant.1 ∙ pictured_all _ _ _ _ c.loop-r.r (omega arith);
      value = λ t. record { u = in-u t; v = in-v t };
    }
