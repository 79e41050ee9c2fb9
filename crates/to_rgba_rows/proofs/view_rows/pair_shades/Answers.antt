-- `to_rgba_rows::view_rows::pair_shades` meets its contract. The invariant: the pixels of the first i pairs are done. A pair has one share of
-- each channel, at place i, and its luma is the two bytes of a word, `pair_step`.
-- Assumes nothing.
use borrow.Author.Rules.{rules}
use Prim.Native.Nat.{◌+◌, ◌*◌, ◌/◌}
use native.Mathlib.Omega.{arith}
use mathlib.Core.Path.{refl, ◌∙◌}
use Rattle.colour.specs.Products.{shade_of}
use Rattle.lent.proofs.Pixels.{done_none, done_at, done_all}
use Rattle.to_rgba_rows.specs.Rules.{half_of}
use Rattle.to_rgba_rows.proofs.Shading.{placed_step, pair_step, shade_at, shade_asks, shade_kept}
use Rattle.to_rgba_rows.proofs.view_rows.pair_shades.Goals as goal

pub loop-i-init : goal.loop-i-init
loop-i-init c = (refl, done_none _ _)

pub shade-requires : goal.shade-requires
shade-requires c = shade_asks c.requires.small c.loop-i.i (omega arith)

pub shade-requires-in-loop-i : goal.shade-requires-in-loop-i
shade-requires-in-loop-i c = shade_asks c.requires.small c.loop-i.i (omega arith)

pub loop-i-preserved : goal.loop-i-preserved
unfolding shade_of
loop-i-preserved c =
    let a = c.args in
    let i = c.loop-i.i in (
      search rules,
      pair_step (shade_at a.r.now a.g.now a.b.now) (λ y j. refl) a.y.now a.at a.out.now i c.two-w.ensures c.loop-i.invariant.1
          c.put_pixel.ensures (shade_kept c.requires.small _ i (omega arith) c.shade.ensures)
          c.put_pixel-in-loop-i.ensures (shade_kept c.requires.small _ i (omega arith) c.shade-in-loop-i.ensures) (omega arith),
    )

pub shade-requires-then-end-m : goal.shade-requires-then-end-m
shade-requires-then-end-m c = shade_asks c.requires.small (c.args.m / 2) (omega arith)

pub returns-then-end-m : goal.returns-then-end-m
unfolding shade_of
returns-then-end-m c =
    let a = c.args in
    let pairs = a.m / 2 in
    placed_step (shade_at a.r.now a.g.now a.b.now) (λ y j. refl) a.y.now a.at a.out.now half_of (2 * pairs) (2 * pairs + 1)
    refl (omega arith) (done_at _ _ _ (2 * pairs) c.loop-i.invariant.1 (omega arith)) c.put_pixel-then-end-m.ensures
    (shade_kept c.requires.small _ pairs (omega (arith, c.if-end-m.true)) c.shade-then-end-m.ensures) (omega (arith, c.if-end-m.true)) refl
    ∙ done_all _ _ (2 * pairs + 1) (omega arith)

pub returns-else-end-m : goal.returns-else-end-m
returns-else-end-m c = c.loop-i.invariant.1 ∙ done_all _ _ (2 * c.loop-i.i) (omega arith)
