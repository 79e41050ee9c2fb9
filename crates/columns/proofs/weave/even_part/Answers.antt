-- `columns::weave::even_part` meets its contract. u and v by turns are woven with the odd bytes, which are kept in an array: `evens_new`.
-- Assumes nothing.
use Rattle.columns.specs.Turns.{woven}
use Prim.Native.Nat.{◌+◌, ◌-◌}
use native.Mathlib.Omega.{arith}
use mathlib.Core.Path.{◌∙◌}
use Rattle.columns.proofs.Turns.{evens_new, turns_at}
use Rattle.columns.proofs.weave.even_part.Goals as goal

pub returns : goal.returns
returns c =
    let a = c.args in
    c.weave-2.ensures
    ∙ rw (c.seconds.ensures, c.weave.ensures)
    (evens_new a.dst.now _ _ (omega arith) (omega arith) (λ j. woven a.u.now a.v.now (a.lead + j))
    (λ j h. turns_at a.u.now a.v.now _ c.div_ceil.result (128 - a.lead) a.lead j (omega arith) (omega arith) (omega arith)))
