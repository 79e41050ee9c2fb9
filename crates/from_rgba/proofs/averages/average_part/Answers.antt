-- `from_rgba::averages::average_part` meets its contract: what goes through the array are the averages, `averages_back`.
-- Assumes nothing.
use Prim.Native.Nat.{◌-◌}
use native.Mathlib.Omega.{arith}
use Rattle.lent.specs.Samples.{sample}
use Rattle.from_rgba.specs.Averaged.{averaged}
use Rattle.from_rgba.proofs.Blocks.{averages_back}
use Rattle.from_rgba.proofs.averages.average_part.Goals as goal

pub returns : goal.returns
returns c =
    let a = c.args in
    averages_back (averaged (sample a.pair.now (a.below - a.at)) 0) a.pair.now _ a.at a.n (omega arith) (omega arith) c.averages_of.ensures c.put_back.ensures
