-- `check_rows::parts::fourths_apart` meets its contract: every second byte of every second byte.
-- Assumes nothing.
use native.Mathlib.Omega.{arith}
use Rattle.check_rows.proofs.Samples.{fourths_right}
use Rattle.check_rows.proofs.parts.fourths_apart.Goals as goal

pub returns : goal.returns
returns g c =
    let a = c.args in
    fourths_right a.row.now a.src.now _ _ g.row.N a.from (omega arith) c.requires.from_bound c.seconds_twice.ensures c.seconds_apart.ensures
