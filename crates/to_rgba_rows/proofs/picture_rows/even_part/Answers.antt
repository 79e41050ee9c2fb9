-- `to_rgba_rows::picture_rows::even_part` meets its contract: the chroma that `part` reads went through two arrays, which hold the filtered
-- rows (`smoothed_part`), and the sum of the marks has both counts (`marks_filtered`). Assumes nothing.
use borrow.Author.Rules.{rules}
use Prim.Native.Nat.{◌+◌, ◌*◌, ◌/◌}
use native.Mathlib.Omega.{arith}
use mathlib.Core.Path.{sym, ap, ◌∙◌}
use lib.ListN.{length}
use Rattle.lent.proofs.Paint.{length-paint}
use Rattle.to_rgba_rows.proofs.Filtered.{marks_fit, marks_filtered}
use Rattle.to_rgba_rows.proofs.PictureParts.{smoothed_part}
use Rattle.to_rgba_rows.proofs.picture_rows.even_part.Goals as goal

pub slice_bounds-part-end : goal.slice_bounds-part-end
slice_bounds-part-end c = sym (ap length c.smoothed.ensures.p ∙ length-paint _ _ _)

pub slice_bounds-part-end-2 : goal.slice_bounds-part-end-2
slice_bounds-part-end-2 c = sym (ap length c.smoothed.ensures.q ∙ length-paint _ _ _)

pub part-requires : goal.part-requires
part-requires c =
    let p = (sym (ap length c.smoothed.ensures.p ∙ length-paint _ _ _)) in
    let q = slice_bounds-part-end-2 c in
    record { exact = search rules; few = search rules; y_has = search rules; u_has = omega arith; v_has = omega arith }

pub counted-requires : goal.counted-requires
counted-requires c =
    let a = c.args in
    marks_fit a.u.now a.v.now a.at a.below a.n c.requires.few c.smoothed.ensures.marks

pub returns : goal.returns
returns c =
    let a = c.args in
    let fits = c.requires in
    let sum = marks_filtered a.u.now a.v.now a.at a.below a.n fits.few c.smoothed.ensures.marks in record {
      out_after = smoothed_part a.y.now a.u.now a.v.now _ a.out.now a.at a.below a.n (2 * ((a.n + 1) / 2))
          fits.exact (omega arith) (omega (arith, fits.few)) c.smoothed.ensures.p c.smoothed.ensures.q c.part.ensures;
      value = λ t. record { u = (c.counted.ensures.0 ∙ sum.0) t; v = (c.counted.ensures.1 ∙ sum.1) t };
    }
