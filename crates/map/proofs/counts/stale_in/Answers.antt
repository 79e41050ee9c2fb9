-- `map::counts::stale_in` meets its contract. The invariant: the first r rows are counted. A count is never above rows x columns, so no sum
-- wraps.
-- Assumes nothing.
use Prim.Native.Nat.{ℕ, ◌+◌, ◌*◌, ◌/◌, ◌≤◌}
use native.Mathlib.Nat.{mul-le-mul_right}
use native.Mathlib.Omega.{arith}
use mathlib.Core.Path.{◌≡◌, ◌∙◌}
use Rattle.lent.specs.Counts.{count_of}
use Rattle.lent.specs.Samples.{sample}
use Rattle.lent.proofs.Counts.{total_none, count_low}
use Rattle.picture.proofs.Sizes.{plane_small}
use Rattle.map.specs.Map.{stale, stale_rows_of}
use Rattle.map.proofs.StaleCounts.{row_blocks, rows_count, stale_low}
use Rattle.map.proofs.counts.stale_in.Goals.{After-min-lines, After-row_stale}
use Rattle.map.proofs.counts.stale_in.Goals as goal

-- one of these rows, by the blocks of the map: at most n
row_is : (c : After-row_stale) → let a = c.args in
    c.row_stale.result ≡ count_of a.n (λ k. stale (sample a.map.now c.across-wide.result ((a.top + c.loop-r.r) / 2) ((a.left + k) / 2)))
row_is c =
    let a = c.args in
    c.row_stale.ensures ∙ row_blocks stale a.map.now c.across-wide.result ((a.top + c.loop-r.r) / 2) a.left a.n (omega arith)

row_low : (c : After-row_stale) → let a = c.args in c.row_stale.result ≤ a.n
row_low c =
    let a = c.args in
    omega (arith, row_is c, count_low a.n (λ k. stale (sample a.map.now c.across-wide.result ((a.top + c.loop-r.r) / 2) ((a.left + k) / 2))))

-- the two rows of a block, or the one that is left, are counted too
counted : (c : After-row_stale) → let a = c.args in
    c.loop-r.count + c.min-lines.result * c.row_stale.result ≡ stale_rows_of c.across-wide.result a.left a.top a.n (c.loop-r.r + c.min-lines.result) a.map.now
counted c =
    let a = c.args in
    let w : ℕ = c.across-wide.result in
    (λ i. c.loop-r.invariant.1 i + c.min-lines.result * row_is c i)
    ∙ rows_count (λ j. count_of a.n (λ k. stale (sample a.map.now w j ((a.left + k) / 2)))) a.top c.loop-r.r c.min-lines.result (λ k lt. omega arith)

pub loop-r-init : goal.loop-r-init
loop-r-init c = (omega arith, total_none _)

pub overflow_mul-count : goal.overflow_mul-count
overflow_mul-count c =
    let two : c.min-lines.result ≤ 2 = omega arith in
    omega (arith, row_low (goal.at.overflow_mul-count c).After-row_stale, mul-le-mul_right c.row_stale.result two)

pub overflow_add-count : goal.overflow_add-count
overflow_add-count c =
    let a = c.args in
    omega (
      arith,
      counted (goal.at.overflow_add-count c).After-row_stale,
      stale_low c.across-wide.result a.left a.top a.n (c.loop-r.r + c.min-lines.result) a.map.now,
      plane_small {rows = c.loop-r.r + c.min-lines.result} {stride = a.n} (omega arith) (omega arith),
    )

pub loop-r-preserved : goal.loop-r-preserved
loop-r-preserved c = (omega arith, counted (goal.at.loop-r-preserved c).After-row_stale)
