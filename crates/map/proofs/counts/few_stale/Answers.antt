-- `map::counts::few_stale` meets its contract. The invariant: n of the bytes before the loop's place are not 2.
-- Assumes nothing.
use Prim.Native.Nat.{ℕ, ◌+◌}
use native.Mathlib.Omega.{arith}
use mathlib.Core.Path.{◌≡◌, ◌∙◌}
use lib.ListN.{get_or}
use Rattle.lent.specs.Counts.{count_of}
use Rattle.lent.proofs.Counts.{total_none, total-one, count_low}
use Rattle.map.specs.Map.{stale}
use Rattle.map.proofs.StaleCounts.{byte_one}
use Rattle.map.proofs.counts.few_stale.Goals as goal

pub loop-b-init : goal.loop-b-init
loop-b-init c = (omega arith, total_none _)

pub loop-b-preserved : goal.loop-b-preserved
loop-b-preserved c =
    let part = c.args.part.now in
    let k : ℕ = c.loop-b.b-index in
    let t = λ (j : ℕ). stale (get_or part j 0) in
    let next : c.loop-b.n + c.from-n.result ≡ count_of (k + 1) t =
    (λ i. c.loop-b.invariant.1 i + (c.from-n.ensures ∙ byte_one (t k)) i) ∙ total-one k _ in
    (omega (arith, next, count_low (k + 1) t), next)
