use Prim.Native.Nat.{◌+◌, ◌*◌, ◌/◌}
use mathlib.Core.Path.{◌≡◌}
use Rattle.lent.specs.Paint.{painted, whole, up_to}
use Rattle.split_views.specs.Views.{v2_chroma_sample}
use Rattle.split_views.proofs.auxiliary.v2_chroma.Given as goal

abbrev pub invariant-loop-row : goal.invariant-loop-row
invariant-loop-row l = l.out ≡ painted (l.wide / 2) (l.rows / 2) (up_to whole l.row) (λ r. v2_chroma_sample l.wide l.stride l.u l.v l.first (2 * r + 1)) l.initial.out
