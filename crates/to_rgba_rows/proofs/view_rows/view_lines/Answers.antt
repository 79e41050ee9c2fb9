-- `to_rgba_rows::view_rows::view_lines` meets its contract. The invariant: of every row the columns below k are done, and k is even where a
-- column is left, so that a part starts at the first pixel of its chroma. `view_more` is a part.
-- Assumes nothing.
use borrow.Author.Rules.{rules}
use Prim.Native.Nat.{◌+◌, ◌*◌}
use native.Mathlib.Omega.{arith}
use mathlib.Core.Path.{◌≡◌, refl, ◌∙◌}
use Rattle.to_rgba_rows.proofs.ViewParts.{columns_none, columns_all, view_more}
use Rattle.to_rgba_rows.proofs.view_rows.view_lines.Goals as goal

pub loop-k-init : goal.loop-k-init
loop-k-init c = (refl, refl, columns_none _ _ _ _)

pub view_part-requires : goal.view_part-requires
view_part-requires c =
    let f = c.requires in
    let even = c.loop-k.invariant.0 in
    let m = c.min-m.ensures in record {
      fits = record {
        exact = c.loop-k.invariant.1 ∙ f.exact;
        small = f.small;
        few = omega arith;
        inside = omega arith;
        wide = f.wide;
        y_has = f.y_fits;
      };
      u_has = omega arith;
      v_has = omega arith;
    }

pub loop-k-preserved : goal.loop-k-preserved
loop-k-preserved c =
    let a = c.args in
    let f = c.requires in
    let k = c.loop-k.k in
    let m = c.min-m.ensures in
    let even = c.loop-k.invariant.0 in
    let next = view_more a.luma a.chroma a.row a.n a.lines k c.min-m.result a.y.now a.u.now a.v.now a.out.now
    {is = c.view_part.new.out} f.even_row f.few even c.loop-k.invariant.2 c.view_part.ensures in
    let whole : c.min-m.result ≡ 64 = omega arith in
    (omega arith, search rules, rw whole at next)

pub returns-2 : goal.returns-2
returns-2 c =
    let a = c.args in
    let f = c.requires in
    let k = c.loop-k.k in
    let m = c.min-m.ensures in
    let even = c.loop-k.invariant.0 in
    view_more a.luma a.chroma a.row a.n a.lines k c.min-m.result a.y.now a.u.now a.v.now a.out.now
    {is = c.view_part.new.out} f.even_row f.few even c.loop-k.invariant.2 c.view_part.ensures
    ∙ columns_all _ _ _ _ (4 * (k + c.min-m.result)) (omega arith)

pub returns : goal.returns
returns c = c.loop-k.invariant.2 ∙ columns_all _ _ _ _ (4 * c.loop-k.k) (omega arith)
