-- `split_rows::seconds` meets its contract: the first byte of a pair is its remainder by 256, the second its quotient.
-- Assumes nothing.
use native.Mathlib.Omega.{arith}
use mathlib.Core.Path.{◌∙◌}
use Rattle.split_rows.proofs.Rows.{firsts_of, lasts_of}
use Rattle.split_rows.proofs.seconds.Goals as goal

pub returns-then-first-eq0 : goal.returns-then-first-eq0
returns-then-first-eq0 g c =
    c.firsts.ensures
    ∙ rw c.pair.ensures (firsts_of c.args.src.now _ c.args.dst.now g.row.N (omega arith) (omega arith) (λ k. omega (arith, c.type_inv.src k)) c.if-first-eq0.true)

pub returns-else-first-eq0 : goal.returns-else-first-eq0
returns-else-first-eq0 g c =
    c.bytes.ensures
    ∙ rw c.pair.ensures (lasts_of c.args.src.now _ c.args.dst.now g.row.N (omega arith) (omega arith) (λ k. omega (arith, c.type_inv.src k)) (omega arith))
