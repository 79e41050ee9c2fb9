-- `columns::put_evens` meets its contract. The invariant: the even places below col are painted, by fours, so that each turn begins with the same
-- of u and v. `below_more` is one turn.
-- Assumes nothing.
use Prim.Native.Nat.{ℕ, ◌+◌, ◌-◌, ◌/◌, ◌%◌, ◌≤◌, ◌<◌}
use native.Mathlib.Omega.{arith}
use mathlib.Core.Path.{◌≡◌, subst}
use mathlib.Core.List.{List, ◌++◌}
use lib.ListN.{length, take, drop}
use Rattle.lent.specs.Paint.{paint}
use Rattle.columns.specs.Turns.{even, woven}
use Rattle.columns.specs.Fits.{EvensFit}
use Rattle.columns.proofs.Sources.{even-shift, turns_from}
use Rattle.columns.proofs.Columns.{Below, below_none, below_all, below_more}
use Rattle.columns.proofs.put_evens.Goals as goal

pub loop-col-init : goal.loop-col-init
loop-col-init c = (omega arith, below_none _ _ _)

-- one turn, from col to below end
turn : (dst u v : List ℕ) {was ys : List ℕ} (lead col end : ℕ) → EvensFit (length dst) (length u) (length v) lead → col % 4 ≡ 0 → col < end → end ≤ length dst
    → Below even (λ k. woven u v (lead + k / 2)) dst was col
    → ys ≡ paint even (λ k. woven (take (length u - col / 4) (drop (col / 4) u)) (take (length v - col / 4) (drop (col / 4) v)) (lead + k / 2)) (take (end - col) (drop col was))
    → Below even (λ k. woven u v (lead + k / 2)) dst (take col was ++ (ys ++ drop (end - col) (drop col was))) end
turn dst u v lead col end fits fours some inside before is =
    let first = fits.first in
    let pairs = fits.pairs in
    let seen_u = fits.seen_u in
    let seen_v = fits.seen_v in
    below_more even _ dst col end (omega arith) inside before is
    (λ j h. even-shift col j (omega arith))
    (λ j h e. turns_from u v (col / 4) (length u - col / 4) (length v - col / 4) (lead + j / 2) (lead + (col + j) / 2) (omega arith) (omega arith) (omega arith))

pub loop-col-preserved : goal.loop-col-preserved
loop-col-preserved c =
    let a = c.args in
    let col : ℕ = c.loop-col.col in
    let whole : col + c.min.result ≡ col + 252 = omega arith in (
      omega arith,
      subst (Below even _ a.dst.now _) whole
          (turn a.dst.now a.u.now a.v.now a.lead col (col + c.min.result) c.requires c.loop-col.invariant.0 (omega arith) (omega arith) c.loop-col.invariant.1 c.even_part.ensures),
    )

pub returns : goal.returns
returns c = below_all even _ _ c.loop-col.col c.loop-col.invariant.1 (omega arith)

pub returns-2 : goal.returns-2
returns-2 c =
    let a = c.args in
    let col : ℕ = c.loop-col.col in
    below_all even _ _ _
    (turn a.dst.now a.u.now a.v.now a.lead col (col + c.min.result) c.requires c.loop-col.invariant.0 (omega arith) (omega arith) c.loop-col.invariant.1 c.even_part.ensures)
    (omega arith)
