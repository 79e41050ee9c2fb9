-- `annex_b::put_unit` meets its contract: the start code and the unit are two parts of the output, one after the other.
-- Assumes nothing.
use Prim.Native.Nat.{◌+◌, ◌-◌}
use native.Mathlib.Omega.{arith}
use lib.ListN.{take, drop, length-drop}
use lib.Seq.{length-take-le}
use Rattle.annex_b.proofs.Written.{put_parts}
use Rattle.annex_b.proofs.put_unit.Goals as goal

pub returns : goal.returns
returns c =
    let a = c.args in
    put_parts a.out.now c.copy_from_slice.new.self c.copy.new.dst (take (a.end - (a.at + 4)) (drop (a.at + 4) a.s.now)) a.at a.end
    (omega arith)
    (omega arith)
    c.copy_from_slice.ensures.after
    c.copy.ensures
    (length-take-le _ _ (simp length-drop (omega arith)))
