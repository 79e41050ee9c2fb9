use Prim.Native.Nat.{◌+◌, ◌*◌, ◌/◌}
use mathlib.Core.Path.{◌≡◌}
use Rattle.lent.specs.Paint.{painted, whole, up_to}
use Rattle.split_views.specs.Views.{seen}
use Rattle.split_views.proofs.half_plane.Given as goal

abbrev pub invariant-loop-row : goal.invariant-loop-row
invariant-loop-row l = l.out ≡ painted (l.wide / 2) (l.rows / 2) (up_to whole l.row) (λ r k. seen 128 l.plane l.stride (2 * r) (2 * k + l.first)) l.initial.out
