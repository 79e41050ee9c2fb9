-- `split::number::Views::of` meets its contract: the views' width and rows fit 16 bits.
-- Assumes nothing.
use Prim.Native.Nat.{◌/◌}
use native.Mathlib.Omega.{arith}
use Rattle.split.proofs.Exactly.{sides_fit}
use Rattle.split.proofs.number.Views.of.Goals as goal

pub overflow_cast-result : goal.overflow_cast-result
overflow_cast-result c = omega (arith, sides_fit c.args.way c.args.size c.requires, c.view_width-wide.ensures)

pub overflow_cast-result-2 : goal.overflow_cast-result-2
overflow_cast-result-2 c = omega (arith, sides_fit c.args.way c.args.size c.requires, c.rows-rows.ensures.0)

pub returns : goal.returns
returns c =
    let e = c.view_width-wide.ensures in
    let f = c.rows-rows.ensures.0 in
    (λ i. record { number = 0; width = e i; height = f i; luma_stride = e i; chroma_stride = e i / 2 })
