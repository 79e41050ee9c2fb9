use Prim.Native.Nat.{◌+◌, ◌-◌}
use mathlib.Core.Path.{◌≡◌}
use lib.ListN.{length}
use Rattle.annex_b.specs.Units.{units_from}
use Rattle.annex_b.specs.Format.{summed}
use Rattle.annex_b.specs.AnnexB.{count_of}
use Rattle.annex_b.proofs.count.Given as goal

abbrev pub invariant-loop-unit : goal.invariant-loop-unit
invariant-loop-unit l = l.c.at + summed (units_from l.s l.c.at) ≡ count_of l.s

abbrev pub decreases-loop-unit : goal.decreases-loop-unit
decreases-loop-unit l = length l.s - l.c.at
