-- `columns::both::put_16` meets its contract: what both planes' places become is found in arrays and copied from there.
-- Assumes nothing.
use native.Mathlib.Omega.{arith}
use Rattle.columns.proofs.NewOdds.{whole_16}
use Rattle.columns.proofs.both.put_16.Goals as goal

pub returns : goal.returns
returns c =
    let a = c.args in record {
      u = whole_16 a.us.now a.u.now _ c.requires.u_len.0 (omega arith) c.mix.ensures c.copy_front.ensures;
      v = whole_16 a.vs.now a.v.now _ c.requires.u_len.1 (omega arith) c.mix-2.ensures c.copy_front-2.ensures;
    }
