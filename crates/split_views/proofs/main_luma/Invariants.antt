use mathlib.Core.Path.{◌≡◌}
use Rattle.lent.specs.Paint.{painted, whole, up_to}
use Rattle.split_views.specs.Views.{seen}
use Rattle.split_views.proofs.main_luma.Given as goal

abbrev pub invariant-loop-row : goal.invariant-loop-row
invariant-loop-row l = l.out ≡ painted l.wide l.rows (up_to whole l.row) (seen 0 l.plane l.stride) l.initial.out
