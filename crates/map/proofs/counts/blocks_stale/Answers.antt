-- `map::counts::blocks_stale` meets its contract. The invariant: n of the first k bytes are not 2.
-- Assumes nothing.
use Prim.Native.Nat.{ℕ, ◌+◌, ◌-◌, ◌≤◌}
use native.Mathlib.Omega.{arith}
use mathlib.Core.Path.{◌≡◌, sym, ap, ◌∙◌}
use mathlib.Core.List.{List}
use lib.ListN.{length, get_or, take, drop}
use Rattle.lent.specs.Counts.{count_of}
use Rattle.lent.proofs.Counts.{total_none, count_low}
use Rattle.map.specs.Map.{stale}
use Rattle.map.proofs.StaleCounts.{count_part, alike_count}
use Rattle.map.proofs.counts.blocks_stale.Goals as goal

-- a complete line has none
pub returns-then-all_are : goal.returns-then-all_are
returns-then-all_are c = let line = c.args.line.now in sym (alike_count stale line 2 (c.all_are.ensures c.if-all_are.true) ∙ omega arith)

-- and one that waits has nothing else
pub returns-then-all_are-2 : goal.returns-then-all_are-2
returns-then-all_are-2 c =
    let line = c.args.line.now in
    sym (alike_count stale line 1 (c.all_are-then-end-le8.ensures c.if-all_are-2.true) ∙ omega arith)

pub loop-k-init : goal.loop-k-init
loop-k-init c = (omega arith, total_none _)

-- the part that was counted is counted too
counted : (line : List ℕ) (k m n r : ℕ) → k + m ≤ length line → n ≡ count_of k (λ j. stale (get_or line j 0))
    → r ≡ count_of (length (take (k + m - k) (drop k line))) (λ j. stale (get_or (take (k + m - k) (drop k line)) j 0))
    → n + r ≡ count_of (k + m) (λ j. stale (get_or line j 0))
counted line k m n r fits before here = count_part stale line k (k + m) n r (omega arith) fits before here

pub overflow_add-n : goal.overflow_add-n
overflow_add-n c =
    let line = c.args.line.now in
    let k : ℕ = c.loop-k.k in
    let m : ℕ = c.min-m.result in
    omega (arith, counted line k m c.loop-k.n c.from-n.result (omega arith) c.loop-k.invariant.1 (c.from-n.ensures ∙ c.few_stale-in-loop-k.ensures), count_low (k + m) (λ j. stale (get_or line j 0)))

pub loop-k-preserved : goal.loop-k-preserved
loop-k-preserved c =
    let line = c.args.line.now in
    let k : ℕ = c.loop-k.k in
    let m : ℕ = c.min-m.result in
    let whole : k + m ≡ k + 255 = omega arith in (
      omega arith,
      counted line k m c.loop-k.n c.from-n.result (omega arith) c.loop-k.invariant.1 (c.from-n.ensures ∙ c.few_stale-in-loop-k.ensures)
          ∙ ap (λ (e : ℕ). count_of e (λ j. stale (get_or line j 0))) whole,
    )

pub returns-else-end-lt256-2 : goal.returns-else-end-lt256-2
returns-else-end-lt256-2 c =
    let line = c.args.line.now in
    let k : ℕ = c.loop-k.k in
    let m : ℕ = c.min-m.result in
    let all : k + m ≡ length line = omega arith in
    counted line k m c.loop-k.n c.from-n.result (omega arith) c.loop-k.invariant.1 (c.from-n.ensures ∙ c.few_stale-in-loop-k.ensures)
    ∙ ap (λ (e : ℕ). count_of e (λ j. stale (get_or line j 0))) all
