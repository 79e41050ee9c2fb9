-- `columns::both::put_many` meets its contract: the last turn, which may start before the others end, has what was found before them.
-- Assumes nothing.
use Prim.Native.Nat.{ℕ, ◌+◌, ◌*◌, ◌/◌}
use native.Mathlib.Omega.{arith}
use Rattle.columns.proofs.NewOdds.{new_last}
use Rattle.columns.proofs.both.put_many.Goals.{Start}
use Rattle.columns.proofs.both.put_many.Goals as goal

pub returns : goal.returns
returns c =
    let a = c.args in
    let next : ℕ = (a.most + 7) / 8 * 8 in
    record {
      u = new_last a.us.now a.u.now _ next a.most (c.put_turns.auto.u, c.put_turns.ensures.u) (omega arith) (omega arith) c.requires.u_len.0 (omega arith)
          c.mix.ensures c.copy_front.ensures;
      v = new_last a.vs.now a.v.now _ next a.most (c.put_turns.auto.v, c.put_turns.ensures.v) (omega arith) (omega arith) c.requires.u_len.1 (omega arith)
          c.mix-2.ensures c.copy_front-2.ensures;
    }
