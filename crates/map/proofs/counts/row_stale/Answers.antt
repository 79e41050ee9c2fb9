-- `map::counts::row_stale` meets its contract: the pairs of pixels and the two cut blocks are the whole row, and so never more than its pixels.
-- Assumes nothing.
use Prim.Native.Nat.{◌+◌, ◌*◌, ◌-◌, ◌/◌, ◌%◌, ◌≤◌}
use native.Mathlib.Omega.{arith}
use mathlib.Core.Path.{◌≡◌, ◌∙◌}
use lib.ListN.{get_or}
use Rattle.lent.specs.Counts.{one, count_of}
use Rattle.lent.proofs.Counts.{count_low}
use Rattle.map.specs.Map.{stale}
use Rattle.map.proofs.StaleCounts.{part_count, row_count}
use Rattle.map.proofs.counts.row_stale.Goals.{After-blocks_stale, After-cut_stale, After-cut_stale-2}
use Rattle.map.proofs.counts.row_stale.Goals as goal

-- the blocks between
middle : (b : After-blocks_stale) → let a = b.args in
    b.blocks_stale.result ≡ count_of ((a.left + a.n) / 2 - (a.left + 1) / 2) (λ j. stale (get_or a.line.now ((a.left + 1) / 2 + j) 0))
middle b =
    let a = b.args in
    b.blocks_stale.ensures ∙ part_count stale a.line.now ((a.left + 1) / 2) ((a.left + a.n) / 2) (omega arith) (omega arith)

middle-low : (b : After-blocks_stale) → let a = b.args in b.blocks_stale.result ≤ (a.left + a.n) / 2 - (a.left + 1) / 2
middle-low b =
    let a = b.args in
    omega (arith, middle b, count_low ((a.left + a.n) / 2 - (a.left + 1) / 2) (λ j. stale (get_or a.line.now ((a.left + 1) / 2 + j) 0)))

head-low : (h : After-cut_stale) → let a = h.args in h.cut_stale.result ≤ a.left % 2
head-low h =
    let a = h.args in
    omega (arith, h.cut_stale.ensures, count_low (a.left % 2) (λ k. stale (get_or a.line.now (a.left / 2) 0)))

tail-low : (t : After-cut_stale-2) → let a = t.args in t.cut_stale-2.result ≤ (a.left + a.n) % 2
tail-low t =
    let a = t.args in
    omega (arith, t.cut_stale-2.ensures, count_low ((a.left + a.n) % 2) (λ k. stale (get_or a.line.now ((a.left + a.n) / 2) 0)))

pub overflow_mul-result : goal.overflow_mul-result
overflow_mul-result c = omega (arith, middle-low (goal.at.overflow_mul-result c).After-blocks_stale)

pub overflow_add-result : goal.overflow_add-result
overflow_add-result c = omega (arith, middle-low (goal.at.overflow_add-result c).After-blocks_stale, head-low (goal.at.overflow_add-result c).After-cut_stale)

pub overflow_add-result-2 : goal.overflow_add-result-2
overflow_add-result-2 c = omega (arith, middle-low (goal.at.overflow_add-result-2 c).After-blocks_stale, head-low (goal.at.overflow_add-result-2 c).After-cut_stale, tail-low (goal.at.overflow_add-result-2 c).After-cut_stale-2)

pub returns : goal.returns
returns c =
    let a = c.args in
    (λ i. 2 * middle (goal.at.returns c).After-blocks_stale i + c.cut_stale.ensures i + c.cut_stale-2.ensures i)
    ∙ row_count (λ j. one (stale (get_or a.line.now j 0))) a.left a.n c.requires.0
