-- `to_rgba::view_rows` meets its contract. The invariant: the first r rows of the output are written, and those that are to come start at an
-- even row. The walk is one for every matrix.
-- Assumes nothing.
use Prim.Native.Nat.{ℕ, ◌+◌, ◌*◌, ◌/◌, ◌≤◌}
use native.Mathlib.Nat.{add-mul, mul-le-mul_right}
use native.Mathlib.Omega.{arith}
use mathlib.Core.Path.{◌≡◌, refl, ap, ◌∙◌}
use borrow.Author.Rules.{rules}
use lib.ListN.{length}
use Rattle.colour.specs.Limited.{reverse_by}
use Rattle.lent.proofs.ByPart.{part_long}
use Rattle.lent.proofs.Cells.{row_in}
use Rattle.to_rgba_rows.specs.Rules.{view_pixel_at}
use Rattle.to_rgba.specs.Pictured.{pictured_to}
use Rattle.to_rgba.specs.View.{view_to_rgba_of}
use Rattle.to_rgba.proofs.Pictured.{bytes_of, lines_room, pictured_none, pictured_lines, pictured_all}
use Rattle.to_rgba.proofs.view_rows.Goals.{At-loop-r}
use Rattle.to_rgba.proofs.view_rows.Goals as goal

-- the rows of the view are within the output
whole : (l : At-loop-r) → let w = l.args.frame.sizes in w.height * (4 * w.width) ≤ length l.args.out.now
whole l = let w = l.args.frame.sizes in omega (arith, bytes_of w.width w.height)

-- and so are those that are written
room : (l : At-loop-r) (lines : ℕ) → let w = l.args.frame.sizes in l.loop-r.r + lines ≤ w.height → l.loop-r.r * (4 * w.width) + lines * (4 * w.width) ≤ length l.args.out.now
room l lines le = let w = l.args.frame.sizes in lines_room w.width w.height l.loop-r.r lines _ le (whole l)

pub loop-r-init : goal.loop-r-init
loop-r-init c = (omega arith, refl, refl, pictured_none _ _ _ _)

pub overflow_mul-start : goal.overflow_mul-start
overflow_mul-start c = omega (arith, room (goal.at.overflow_mul-start c).At-loop-r 0 (omega arith))

pub overflow_mul-lines : goal.overflow_mul-lines
overflow_mul-lines c = omega (arith, room (goal.at.overflow_mul-lines c).At-loop-r c.min-lines.result (omega arith))

pub overflow_add-start : goal.overflow_add-start
overflow_add-start c = omega (arith, room (goal.at.overflow_add-start c).At-loop-r c.min-lines.result (omega arith))

pub slice_bounds-put_lines-end : goal.slice_bounds-put_lines-end
slice_bounds-put_lines-end c = omega (arith, room (goal.at.slice_bounds-put_lines-end c).At-loop-r c.min-lines.result (omega arith))

pub put_lines-requires : goal.put_lines-requires
put_lines-requires c =
    let fits = c.args.frame.fits in
    let w = c.args.frame.sizes in
    let r = c.loop-r.r in
    let lines = c.min-lines.result in
    let even = c.loop-r.invariant.1 in
    let long = room (goal.at.put_lines-requires c).At-loop-r lines (omega arith) in
    let exact = part_long c.loop-r.out (r * (4 * w.width)) (r * (4 * w.width) + lines * (4 * w.width)) (omega arith) (omega arith) in
    let inside : r + lines ≤ w.height = omega arith in
    let luma = mul-le-mul_right w.luma_stride inside in
    let chroma = row_in w.chroma_stride ((w.height + 1) / 2) (r / 2) (omega arith) in record {
      exact = omega arith;
      small = omega arith;
      few = omega arith;
      even_row = even;
      wide = omega arith;
      y_fits = omega (arith, add-mul r lines w.luma_stride);
      u_fits = omega arith;
      v_fits = omega arith;
    }

pub loop-r-preserved : goal.loop-r-preserved
loop-r-preserved c =
    let a = c.args in
    let f = a.frame in
    let w = f.sizes in
    let long = whole (goal.at.loop-r-preserved c).At-loop-r in
    let even = c.loop-r.invariant.1 in
    let two : c.loop-r.r + c.min-lines.result ≡ c.loop-r.r + 2 = omega arith in
    let next = pictured_lines _ _ _ _ c.loop-r.r c.min-lines.result _ _ (omega arith) long refl refl c.loop-r.invariant.3 c.put_lines.ensures refl in
    let pixel = view_pixel_at (reverse_by a.matrix) w.luma_stride w.chroma_stride f.y.now f.u.now f.v.now in
    (omega arith, omega arith, search rules, next ∙ ap (λ (k : ℕ). pictured_to k w.width w.height pixel a.out.now) two)

pub returns-2 : goal.returns-2
unfolding view_to_rgba_of
returns-2 c =
    let long = whole (goal.at.returns-2 c).At-loop-r in
    let even = c.loop-r.invariant.1 in
    pictured_lines _ _ _ _ c.loop-r.r c.min-lines.result _ _ (omega arith) long refl refl c.loop-r.invariant.3 c.put_lines.ensures refl
    ∙ pictured_all _ _ _ _ (c.loop-r.r + c.min-lines.result) (omega arith)

pub returns : goal.returns
unfolding view_to_rgba_of
returns c = c.loop-r.invariant.3 ∙ pictured_all _ _ _ _ c.loop-r.r (omega arith)
