-- `to_rgba_rows::part` meets its contract. A pixel of the shares of its samples is the pixel of the samples (`shade_reversed`), and so
-- the two rules agree on the part (`part_ext`). Assumes nothing.
use native.Mathlib.Omega.{arith}
use Rattle.to_rgba_rows.proofs.Shading.{shares_small, shade_reversed, part_ext}
use Rattle.to_rgba_rows.proofs.part.Goals as goal

pub shares-requires : goal.shares-requires
shares-requires c =
    record {
      r_len = (omega arith, omega arith, omega arith);
      n_bound = (omega arith, omega arith, omega arith);
    }

pub shades-requires : goal.shades-requires
shades-requires c =
    let a = c.args in
    record {
      out_len = (omega arith, omega arith, omega arith);
      small = shares_small a.u.now a.v.now a.c (c.shares.ensures.r, (c.shares.ensures.g, c.shares.ensures.b));
    }

pub returns : goal.returns
returns c =
    let a = c.args in
    rw c.shades.ensures
    (part_ext _ _ a.out.now a.n (omega arith)
    (shade_reversed a.u.now a.v.now a.c (c.shares.ensures.r, (c.shares.ensures.g, c.shares.ensures.b)) (λ k. k) a.y.now a.at))
