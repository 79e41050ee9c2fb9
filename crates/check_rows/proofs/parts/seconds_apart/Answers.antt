-- `check_rows::parts::seconds_apart` meets its contract: the first byte of a pair is its remainder by 256, the second its quotient.
-- Assumes nothing.
use native.Mathlib.Omega.{arith}
use Rattle.check_rows.proofs.Samples.{firsts_right, lasts_right}
use Rattle.check_rows.proofs.parts.seconds_apart.Goals as goal

pub returns-then-from-eq0 : goal.returns-then-from-eq0
returns-then-from-eq0 g c =
    let a = c.args in
    firsts_right a.row.now a.src.now _ _ g.row.N a.from c.requires.row_len (omega arith) (λ k. omega (arith, c.type_inv.src k)) c.pair.ensures c.if-from-eq0.true c.apart_bytes.ensures

pub returns-else-from-eq0 : goal.returns-else-from-eq0
returns-else-from-eq0 g c =
    let a = c.args in
    lasts_right a.row.now a.src.now _ _ g.row.N a.from c.requires.row_len (omega arith) (λ k. omega (arith, c.type_inv.src k)) c.pair.ensures (omega arith) c.apart_bytes-else-from-eq0.ensures
