-- `to_rgba_rows::shades` meets its contract. The invariant: the first i pixels are done.
-- Assumes nothing.
use native.Mathlib.Omega.{arith}
use mathlib.Core.Path.{refl, ◌∙◌}
use borrow.Author.Rules.{rules}
use Rattle.colour.specs.Products.{shade_of}
use Rattle.lent.proofs.Pixels.{done_none, done_all}
use Rattle.to_rgba_rows.proofs.Shading.{placed_step, shade_at, shade_asks, shade_kept}
use Rattle.to_rgba_rows.proofs.shades.Goals as goal

pub loop-i-init : goal.loop-i-init
loop-i-init c = (refl, done_none _ _)

pub shade-requires : goal.shade-requires
shade-requires c = shade_asks c.requires.small c.loop-i.i (omega arith)

pub loop-i-preserved : goal.loop-i-preserved
unfolding shade_of
loop-i-preserved c =
    let a = c.args in (
      search rules,
      placed_step (shade_at a.r.now a.g.now a.b.now) (λ y j. refl) a.y.now a.at _ (λ k. k) c.loop-i.i _ refl refl
          c.loop-i.invariant.1 c.put_pixel.ensures (shade_kept c.requires.small _ c.loop-i.i (omega arith) c.shade.ensures) (omega arith) refl,
    )

pub returns : goal.returns
returns c = c.loop-i.invariant.1 ∙ done_all _ _ c.loop-i.i (omega arith)
