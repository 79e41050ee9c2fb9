-- `lent::long::copy` meets its contract. The invariant: the first k bytes are those of src. `front_more` is one turn.
-- Assumes nothing.
use Prim.Native.Nat.{ℕ, ◌+◌}
use native.Mathlib.Omega.{arith}
use mathlib.Core.Path.{◌≡◌, subst}
use Rattle.lent.proofs.Copies.{Front, front_more}
use Rattle.lent.proofs.long.copy.Goals as goal

pub loop-k-preserved : goal.loop-k-preserved
loop-k-preserved c =
    let src = c.args.src.now in
    let k : ℕ = c.loop-k.k in
    let whole : k + c.min.result ≡ k + 4096 = omega arith in
    subst (Front src _) whole (front_more src c.loop-k.dst k k (k + c.min.result) c.loop-k.invariant (omega arith) (omega arith) (omega arith) c.copy_part.ensures)
