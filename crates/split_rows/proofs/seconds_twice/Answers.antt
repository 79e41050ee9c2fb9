-- `split_rows::seconds_twice` meets its contract: two parts of N bytes.
-- Assumes nothing.
use Prim.Native.Nat.{ℕ, ◌+◌, ◌*◌, ◌-◌}
use native.Mathlib.Omega.{arith}
use mathlib.Core.Path.{ap, ◌∙◌}
use lib.ListN.{get_or, drop}
use lib.Seq.{get_or-take, get_or-drop}
use Rattle.split_rows.proofs.Rows.{two_parts}
use Rattle.split_rows.proofs.seconds_twice.Goals as goal

pub returns : goal.returns
returns g c =
    let a = c.args in
    let n = g.row.N in
    let src = a.src.now in
    two_parts a.dst.now _ _ n (2 * n) _ _ (λ j. get_or src (2 * j + a.first) 0) c.requires.dst_len (omega arith) c.seconds.ensures c.seconds-2.ensures
    (λ j h. get_or-take (2 * n - 0) (drop 0 src) (2 * j + a.first) 0 (omega arith) ∙ get_or-drop 0 src (2 * j + a.first) 0 ∙ ap (λ (i : ℕ). get_or src i 0) (omega arith))
    (λ j h. get_or-take (4 * n - 2 * n) (drop (2 * n) src) (2 * j + a.first) 0 (omega arith) ∙ get_or-drop (2 * n) src (2 * j + a.first) 0 ∙ ap (λ (i : ℕ). get_or src i 0) (omega arith))
