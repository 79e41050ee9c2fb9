use Prim.Native.Nat.{◌+◌, ◌-◌}
use mathlib.Core.Path.{◌≡◌}
use lib.ListN.{length}
use lib.Seq.{sets}
use Rattle.annex_b.specs.Units.{units_from}
use Rattle.annex_b.specs.Format.{summed}
use Rattle.annex_b.specs.AnnexB.{count_of, annexed}
use Rattle.annex_b.proofs.annex_b.Given as goal

abbrev pub invariant-loop-unit : goal.invariant-loop-unit
invariant-loop-unit l = (length l.out ≡ length l.initial.out) × (l.c.at + summed (units_from l.s l.c.at) ≡ count_of l.s) × (sets l.out l.c.at (annexed (units_from l.s l.c.at)) ≡ sets l.initial.out 0 (annexed (units_from l.s 0)))

abbrev pub decreases-loop-unit : goal.decreases-loop-unit
decreases-loop-unit l = length l.s - l.c.at
