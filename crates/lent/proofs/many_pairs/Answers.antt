-- `lent::many_pairs` meets its contract. The invariant: the first 16 k bytes are written. A turn writes the next 16, and the last turn, which
-- may start before the loop's end, those up to the end.
-- Assumes nothing.
use Prim.Native.Nat.{ℕ, ◌+◌, ◌-◌, ◌*◌, ◌/◌, ◌<◌}
use native.Mathlib.Omega.{arith}
use mathlib.Core.Path.{◌≡◌, ap, ◌∙◌, subst}
use mathlib.Core.List.{List}
use lib.ListN.{get_or, take, drop}
use lib.Seq.{get_or-take, get_or-drop}
use Rattle.lent.proofs.SoFar.{SoFar, so_far_none}
use Rattle.lent.proofs.ByPart.{so_far_part, so_far_part_over}
use Rattle.lent.proofs.many_pairs.Goals as goal

-- a byte of the part of `from` that goes to place j of its part of dst
pair-at : (from : List ℕ) (i m j : ℕ) → j / 2 < m → get_or (take m (drop i from)) (j / 2) 0 ≡ get_or from ((2 * i + j) / 2) 0
pair-at from i m j h =
    let is : i + j / 2 ≡ (2 * i + j) / 2 = omega arith in
    get_or-take m (drop i from) (j / 2) 0 h ∙ get_or-drop i from (j / 2) 0 ∙ ap (λ (k : ℕ). get_or from k 0) is

pub loop-k-init : goal.loop-k-init
loop-k-init c = so_far_none _ _

pub loop-k-preserved : goal.loop-k-preserved
loop-k-preserved c =
    let from = c.args.from.now in
    let i : ℕ = 8 * c.loop-k.k in
    let next : 2 * i + 16 ≡ 2 * (8 * (c.loop-k.k + 1)) = omega arith in
    subst (SoFar (λ j. get_or from (j / 2) 0) c.args.dst.now _) next
    (so_far_part (λ j. get_or from (j / 2) 0) c.args.dst.now (2 * i) (2 * i + 16) _ (omega arith) (omega arith) c.loop-k.invariant c.spread_16.ensures
    (λ j h. pair-at from i (i + 8 - i) j (omega arith)))

pub returns : goal.returns
returns c =
    let a = c.args in
    let n : ℕ = a.n in
    (so_far_part_over (λ k. get_or a.from.now (k / 2) 0) a.dst.now (2 * (8 * c.loop-k.k)) (2 * (n - 8)) (2 * n) _ (omega arith) (omega arith) (omega arith) c.loop-k.invariant
    c.spread_16-2.ensures (λ j h. pair-at a.from.now (n - 8) (n - (n - 8)) j (omega arith))).1
