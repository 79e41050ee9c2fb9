-- `map_picture::none` meets its contract: where nothing was written all counts are 0, whatever the number is. Assumes nothing.
use Prim.Native.Nat.{ℕ}
use mathlib.Core.Path.{sym}
use lib.Dec.{eqb}
use Rattle.lent.proofs.Bools.{cond_same}
use Rattle.map_picture.proofs.none.Goals as goal

pub returns : goal.returns
returns c =
    let n = c.args.number in
    let zero = sym (cond_same {A = ℕ} (eqb n 0) 0) in
    λ i. record { number = n; count = zero i; filtered_u = zero i; filtered_v = zero i; stale = zero i }
