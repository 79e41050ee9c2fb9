-- The invariant: k triples of rgb are read, and their text stands in front of `at` (`SoFar`).
-- Assumes nothing.
use Prim.Native.Nat.{◌+◌, ◌*◌}
use mathlib.Core.Path.{◌≡◌, refl}
use native.Mathlib.Omega.{arith}
use Rattle.colours.proofs.Text.{prefix_len_of_le, text_line, text_short, text_end}
use Rattle.colours.proofs.put_text.Goals as goal

pub loop-k-init : goal.loop-k-init
loop-k-init c = record { within = omega arith; room = omega arith; text = refl }

pub loop-k-preserved : goal.loop-k-preserved
loop-k-preserved c =
    let l = c.loop-k in
    let next : 3 * (l.k + 1) ≡ 3 * l.k + 3 = omega arith in
    rw next (text_line l.invariant (omega arith) c.put_line-at.ensures.put c.put_line-at.ensures.upper_bound)

pub returns-in-0 : goal.returns-in-0
returns-in-0 c =
    let l = c.loop-k in
    let s = l.invariant in
    record {
      prefix_len = prefix_len_of_le l.at l.out (omega (arith, s.room, s.within));
      out_after = text_end s (omega (arith, s.within));
    }

pub returns-in_default : goal.returns-in_default
returns-in_default c =
    let l = c.loop-k in
    let s = l.invariant in
    record {
      prefix_len = prefix_len_of_le c.put_short.result c.put_short.new.out (omega (arith, c.put_short.ensures.put.size, s.room));
      out_after = text_short s _ (omega (arith, s.within)) (omega arith) (omega arith) c.put_short.ensures.put;
    }
