-- `map::counts::cut_stale` meets its contract: an even column has nothing to count, an odd one has one block.
-- Assumes nothing.
use Prim.Native.Nat.{ℕ, ◌/◌, ◌%◌}
use native.Mathlib.Omega.{arith}
use mathlib.Core.Path.{◌≡◌, sym, ap, ◌∙◌}
use lib.ListN.{get_or}
use Rattle.lent.specs.Counts.{count_of}
use Rattle.lent.proofs.Counts.{total_none}
use Rattle.map.specs.Map.{stale}
use Rattle.map.proofs.StaleCounts.{byte_one, total_single}
use Rattle.map.proofs.counts.cut_stale.Goals as goal

pub returns-then-column-eq0 : goal.returns-then-column-eq0
returns-then-column-eq0 c =
    let a = c.args in
    let even : 0 ≡ a.column % 2 = omega arith in
    total_none _ ∙ ap (λ (n : ℕ). count_of n (λ k. stale (get_or a.line.now (a.column / 2) 0))) even

pub returns : goal.returns
returns c =
    let a = c.args in
    let odd : 1 ≡ a.column % 2 = omega arith in
    c.from.ensures ∙ byte_one _ ∙ sym (total_single _) ∙ ap (λ (n : ℕ). count_of n (λ k. stale (get_or a.line.now (a.column / 2) 0))) odd
