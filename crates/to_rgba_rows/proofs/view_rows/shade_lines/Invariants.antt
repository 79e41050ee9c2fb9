use Prim.Native.Nat.{◌+◌, ◌*◌, ◌-◌}
use mathlib.Core.Path.{◌≡◌}
use lib.ListN.{length}
use Rattle.lent.specs.Paint.{painted, within, up_to}
use Rattle.lent.specs.Pixels.{bytes}
use Rattle.to_rgba_rows.specs.Rules.{shades_from, half_of}
use Rattle.to_rgba_rows.proofs.view_rows.shade_lines.Given as goal

abbrev pub invariant-loop-l : goal.invariant-loop-l
invariant-loop-l t =
    (length t.out ≡ length t.initial.out)
    × (t.out ≡ painted (4 * t.n) t.lines (up_to (λ q. within (4 * t.k) (4 * (t.k + t.m))) t.l)
    (λ q. bytes (λ i. shades_from half_of t.y (t.at + q * t.luma + t.k) t.r t.g t.b (i - t.k))) t.initial.out)
