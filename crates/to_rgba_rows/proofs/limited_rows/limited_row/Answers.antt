-- `to_rgba_rows::limited_rows::limited_row` meets its contract. The invariant: the pixels of the first i pairs are done. A pair has one sample
-- of U and of V, at place c + i, and its luma is the two bytes of a word, `pair_step`.
-- Assumes nothing.
use borrow.Author.Rules.{rules}
use Prim.Native.Nat.{ℕ, ◌+◌, ◌*◌, ◌/◌}
use native.Mathlib.Omega.{arith}
use mathlib.Core.Path.{refl, ◌∙◌}
use mathlib.Core.List.{List}
use lib.ListN.{get_or}
use Rattle.colour.specs.Limited.{limited_reverse_of}
use Rattle.lent.proofs.Pixels.{done_none, done_at, done_all}
use Rattle.to_rgba_rows.specs.Rules.{half_of}
use Rattle.to_rgba_rows.proofs.Shading.{placed_step, pair_step}
use Rattle.to_rgba_rows.proofs.limited_rows.limited_row.Goals as goal

-- the pixel of luma y and the samples j places from c on
abbrev limitedAt : List ℕ → List ℕ → ℕ → ℕ → ℕ → List ℕ
limitedAt u v c y j = limited_reverse_of y (get_or u (c + j) 0) (get_or v (c + j) 0)

pub loop-i-init : goal.loop-i-init
loop-i-init c = (refl, done_none _ _)

pub loop-i-preserved : goal.loop-i-preserved
unfolding limited_reverse_of
loop-i-preserved c =
    let a = c.args in
    let i = c.loop-i.i in (
      search rules,
      pair_step (limitedAt a.u.now a.v.now a.c) (λ y j. refl) a.y.now a.at a.out.now i c.two-w.ensures c.loop-i.invariant.1
          c.put_pixel.ensures c.reverse.ensures c.put_pixel-in-loop-i.ensures c.reverse-in-loop-i.ensures (omega arith),
    )

pub returns-then-end-n : goal.returns-then-end-n
unfolding limited_reverse_of
returns-then-end-n c =
    let a = c.args in
    let pairs = a.n / 2 in
    placed_step (limitedAt a.u.now a.v.now a.c) (λ y j. refl) a.y.now a.at a.out.now half_of (2 * pairs) (2 * pairs + 1)
    refl (omega arith) (done_at _ _ _ (2 * pairs) c.loop-i.invariant.1 (omega arith)) c.put_pixel-then-end-n.ensures c.reverse-then-end-n.ensures
    (omega (arith, c.if-end-n.true)) refl
    ∙ done_all _ _ (2 * pairs + 1) (omega arith)

pub returns-else-end-n : goal.returns-else-end-n
returns-else-end-n c = c.loop-i.invariant.1 ∙ done_all _ _ (2 * c.loop-i.i) (omega arith)
