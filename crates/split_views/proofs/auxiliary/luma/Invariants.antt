use mathlib.Core.Path.{◌≡◌}
use Rattle.lent.specs.Paint.{painted, whole, up_to}
use Rattle.layout.specs.Maps.{PY}
use Rattle.split_views.specs.Views.{auxiliary_sample}
use Rattle.split_views.proofs.auxiliary.luma.Given as goal

abbrev pub invariant-loop-row : goal.invariant-loop-row
invariant-loop-row l = l.out ≡ painted l.wide l.rows (up_to whole l.row) (auxiliary_sample l.layout l.stride l.u l.v PY) l.initial.out
