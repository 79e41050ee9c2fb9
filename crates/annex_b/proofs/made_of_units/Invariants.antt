use Prim.Native.Nat.{◌-◌}
use mathlib.Core.Path.{◌≡◌}
use lib.ListN.{length}
use Rattle.annex_b.specs.Format.{made_from}
use Rattle.annex_b.proofs.made_of_units.Given as goal

abbrev pub invariant-loop-unit : goal.invariant-loop-unit
invariant-loop-unit l = made_from l.s l.c.at ≡ made_from l.s 0

abbrev pub decreases-loop-unit : goal.decreases-loop-unit
decreases-loop-unit l = length l.s - l.c.at
