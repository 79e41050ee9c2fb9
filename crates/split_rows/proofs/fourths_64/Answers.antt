-- `split_rows::fourths_64` meets its contract: every second byte of every second byte.
-- Assumes nothing.
use native.Mathlib.Omega.{arith}
use mathlib.Core.Path.{◌∙◌}
use Rattle.split_rows.proofs.Rows.{fourths_twice}
use Rattle.split_rows.proofs.fourths_64.Goals as goal

pub returns : goal.returns
returns c =
    let a = c.args in
    c.seconds.ensures
    ∙ rw c.seconds_twice.ensures (fourths_twice a.src.now _ a.dst.now a.first (omega arith) c.requires.first_bound)
