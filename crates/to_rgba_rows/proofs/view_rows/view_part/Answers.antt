-- `to_rgba_rows::view_rows::view_part` meets its contract: the shares are those of the chroma from c on, so that a pixel of its luma and its
-- shares is the rule's, `shared_part`.
-- Assumes nothing.
use borrow.Author.Rules.{rules}
use Prim.Native.Nat.{◌+◌, ◌*◌}
use native.Mathlib.Omega.{arith}
use Rattle.to_rgba_rows.proofs.Shading.{shares_small}
use Rattle.to_rgba_rows.proofs.ViewParts.{shared_part}
use Rattle.to_rgba_rows.proofs.view_rows.view_part.Goals as goal

pub shares-requires : goal.shares-requires
shares-requires c =
    record {
      r_len = search rules;
      n_bound = (omega arith, c.requires.u_has, c.requires.v_has);
    }

pub shade_lines-requires : goal.shade_lines-requires
shade_lines-requires c =
    let a = c.args in
    record {
      lines_fit = c.requires.fits;
      small = shares_small a.u.now a.v.now a.c (c.shares.ensures.r, (c.shares.ensures.g, c.shares.ensures.b));
    }

pub returns : goal.returns
returns c =
    let a = c.args in
    shared_part (4 * a.n) a.lines a.k a.m (λ l. a.at + l * a.luma) a.y.now a.u.now a.v.now a.c a.out.now
    {is = c.shade_lines.new.out} (c.shares.ensures.r, (c.shares.ensures.g, c.shares.ensures.b)) c.shade_lines.ensures
