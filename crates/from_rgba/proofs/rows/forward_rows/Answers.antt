-- `from_rgba::rows::forward_rows` meets its contract. The invariant: in each plane the picture's places of the rows below `row` hold the
-- converted pixels, and all else is as it was.
-- Assumes nothing.
use Prim.Native.Nat.{ℕ, ◌*◌, ◌<◌, ◌≤◌}
use native.Mathlib.Omega.{arith}
use mathlib.Core.Path.{◌≡◌, refl, ap, ◌∙◌}
use mathlib.Core.List.{List}
use lib.ListN.{length}
use Rattle.lent.specs.Paint.{painted}
use Rattle.lent.specs.Sizes.{round_up}
use Rattle.lent.proofs.Cells.{row_in}
use Rattle.colour.specs.declared.Matrix.{Matrix}
use Rattle.colour.specs.declared.Yuv.{Yuv}
use Rattle.from_rgba.specs.Rows.{colour_at, input_at, inside, line_of, LineFits}
use Rattle.from_rgba.proofs.Converted.{rows_so_far_none, rows_so_far_next, rows_so_far_all, part_colour, pixels_in}
use Rattle.from_rgba.proofs.rows.forward_rows.Goals.{After-round_up_16-stride, In-loop-row}
use Rattle.from_rgba.proofs.rows.forward_rows.Goals as goal

pub loop-row-init : goal.loop-row-init
loop-row-init c = (rows_so_far_none _ _ _ _ _ _, rows_so_far_none _ _ _ _ _ _, rows_so_far_none _ _ _ _ _ _)

-- the planes are within their buffers
fits : (c : After-round_up_16-stride) → let a = c.args in let n = round_up 16 a.height * c.round_up_16-stride.result in (n ≤ length a.y.now) × (n ≤ length a.u.now) × (n ≤ length a.v.now)
fits c =
    let f = c.requires in
    rw c.round_up_16-stride.ensures (f.y_fits, f.u_fits, f.v_fits)

narrow : (c : After-round_up_16-stride) → c.args.width ≤ c.round_up_16-stride.result
narrow c = omega (arith, c.round_up_16-stride.ensures)

-- and in each the row's part, and in the input the row's pixels
room : (c : In-loop-row) →
    let a = c.args in
    LineFits (length a.rgba.now) (length c.loop-row.y) (length c.loop-row.u) (length c.loop-row.v) (4 * (c.loop-row.row * a.width)) a.width (c.loop-row.row * c.round_up_16-stride.result)
room c =
    let a = c.args in
    let f = (let inl : (let a = c.args in let n = round_up 16 a.height * c.round_up_16-stride.result in (n ≤ length a.y.now) × (n ≤ length a.u.now) × (n ≤ length a.v.now)) = let f = c.requires in
    rw c.round_up_16-stride.ensures (f.y_fits, f.u_fits, f.v_fits) in inl) in
    let line = row_in c.round_up_16-stride.result (round_up 16 a.height) c.loop-row.row (omega (arith, c.loop-row-test.true)) in
    let n = (let inl : (c.args.width ≤ c.round_up_16-stride.result) = omega (arith, c.round_up_16-stride.ensures) in inl) in
    record {
      pixels = pixels_in a.width a.height c.loop-row.row _ c.requires.pixels c.loop-row-test.true;
      y_fits = omega (arith, c.loop-row.invariant.0.0);
      u_fits = omega (arith, c.loop-row.invariant.1.0);
      v_fits = omega (arith, c.loop-row.invariant.2.0);
    }

pub overflow_mul-at : goal.overflow_mul-at
overflow_mul-at c = omega (arith, room (goal.at.overflow_mul-at c).In-loop-row)

pub overflow_mul-at-in-loop-row : goal.overflow_mul-at-in-loop-row
overflow_mul-at-in-loop-row c = omega (arith, room (goal.at.overflow_mul-at-in-loop-row c).In-loop-row)

pub overflow_mul-row : goal.overflow_mul-row
overflow_mul-row c = omega (arith, room (goal.at.overflow_mul-row c).In-loop-row)

pub forward_line-requires : goal.forward_line-requires
forward_line-requires c = room (goal.at.forward_line-requires c).In-loop-row

-- a pixel of the row's part is the input's
pixel : (m : Matrix) (px : List ℕ) (width row j : ℕ) → j < width → colour_at m (line_of px (4 * (row * width)) width) j ≡ input_at m px width row j
pixel m px width row j h = part_colour m px (row * width) (4 * (row * width)) (4 * width) j refl (omega arith)

pub loop-row-preserved : goal.loop-row-preserved
loop-row-preserved c =
    let a = c.args in
    let px = a.rgba.now in
    let lt = c.loop-row-test.true in (
      rows_so_far_next _ _ a.width a.height _ _ c.loop-row.row _ (fits (goal.at.loop-row-preserved c).After-round_up_16-stride).0 (narrow (goal.at.loop-row-preserved c).After-round_up_16-stride) (omega arith) lt (λ j h. ap (λ (p : Yuv). p.y) (pixel a.matrix px a.width c.loop-row.row j h)) c.loop-row.invariant.0 c.forward_line.ensures.y,
      rows_so_far_next _ _ a.width a.height _ _ c.loop-row.row _ (fits (goal.at.loop-row-preserved c).After-round_up_16-stride).1 (narrow (goal.at.loop-row-preserved c).After-round_up_16-stride) (omega arith) lt (λ j h. ap (λ (p : Yuv). p.u) (pixel a.matrix px a.width c.loop-row.row j h)) c.loop-row.invariant.1 c.forward_line.ensures.u,
      rows_so_far_next _ _ a.width a.height _ _ c.loop-row.row _ (fits (goal.at.loop-row-preserved c).After-round_up_16-stride).2 (narrow (goal.at.loop-row-preserved c).After-round_up_16-stride) (omega arith) lt (λ j h. ap (λ (p : Yuv). p.v) (pixel a.matrix px a.width c.loop-row.row j h)) c.loop-row.invariant.2 c.forward_line.ensures.v,
    )

pub shape_of-y : goal.shape_of-y
shape_of-y c = c.loop-row.invariant.0.0

pub shape_of-u : goal.shape_of-u
shape_of-u c = c.loop-row.invariant.1.0

pub shape_of-v : goal.shape_of-v
shape_of-v c = c.loop-row.invariant.2.0

pub returns : goal.returns
returns c =
    let a = c.args in
    let px = a.rgba.now in
    let width = c.round_up_16-stride.ensures in
    let end = c.loop-row-test.false in record {
      y = rows_so_far_all _ _ a.width a.height _ _ c.loop-row.row c.loop-row.invariant.0 end ∙ ap (λ (w : ℕ). painted w (round_up 16 a.height) (inside a.width a.height) (λ r k. (input_at a.matrix px a.width r k).y) a.y.now) width;
      u = rows_so_far_all _ _ a.width a.height _ _ c.loop-row.row c.loop-row.invariant.1 end ∙ ap (λ (w : ℕ). painted w (round_up 16 a.height) (inside a.width a.height) (λ r k. (input_at a.matrix px a.width r k).u) a.u.now) width;
      v = rows_so_far_all _ _ a.width a.height _ _ c.loop-row.row c.loop-row.invariant.2 end ∙ ap (λ (w : ℕ). painted w (round_up 16 a.height) (inside a.width a.height) (λ r k. (input_at a.matrix px a.width r k).v) a.v.now) width;
    }
