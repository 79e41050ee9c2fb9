-- Six numbers, one after the other, of what `forward` and `reverse` answer. Assumes nothing.
use native.Mathlib.Omega.{arith}
use Rattle.colours.specs.Text.{line_of}
use Rattle.colours.proofs.Text.{put_more}
use Rattle.colours.proofs.put_line.Goals as goal

pub returns : goal.returns
unfolding line_of
returns c =
    let q5 = put_more c.put_number-green.ensures.put c.put_number.ensures.put in
    let q4 = put_more c.put_number-red.ensures.put q5 in
    let q3 = put_more c.put_number-v.ensures.put q4 in
    let q2 = put_more c.put_number-u.ensures.put q3 in
    let q1 = put_more c.put_number-y.ensures.put q2 in record {
      put = rw (← c.forward-p.ensures, ← c.reverse-back.ensures) q1;
      upper_bound = omega (arith, c.put_number-y.ensures.put, c.put_number-y.ensures.upper_bound, c.put_number-u.ensures.put, c.put_number-u.ensures.upper_bound, c.put_number-v.ensures.put, c.put_number-v.ensures.upper_bound, c.put_number-red.ensures.put, c.put_number-red.ensures.upper_bound, c.put_number-green.ensures.put, c.put_number-green.ensures.upper_bound, c.put_number.ensures.put, c.put_number.ensures.upper_bound);
    }
