-- A part of a plane's row is read: its bytes are the plane's samples. Assumes nothing.
use Prim.Native.Nat.{ℕ, ◌+◌, ◌*◌, ◌-◌, ◌<◌}
use native.Mathlib.Omega.{arith}
use mathlib.Core.Path.{◌≡◌, ap, ◌∙◌}
use mathlib.Core.List.{List}
use lib.ListN.{get_or, take, drop}
use lib.Seq.{get_or-take, get_or-drop}
use Rattle.lent.specs.Samples.{sample}

-- the part from column a to below column e of the row that starts at `start`
pub part_sample_lem : (plane : List ℕ) (stride r start a e j : ℕ) → start ≡ r * stride → a + j < e → get_or (take (start + e - (start + a)) (drop (start + a) plane)) j 0 ≡ sample plane stride r (a + j)
unfolding sample
part_sample_lem plane stride r start a e j is h =
    get_or-take (start + e - (start + a)) (drop (start + a) plane) j 0 (omega arith)
    ∙ get_or-drop (start + a) plane j 0
    ∙ ap (λ (k : ℕ). get_or plane k 0) (omega arith)
