-- The number, then the byte. Assumes nothing.
use native.Mathlib.Omega.{arith}
use Rattle.colours.specs.Text.{number_of}
use Rattle.colours.proofs.Text.{put_more}
use Rattle.colours.proofs.put_number.Goals as goal

pub returns : goal.returns
unfolding number_of
returns c =
    record {
      put = put_more c.put_decimal-a.ensures.put c.put.ensures;
      upper_bound = omega (arith, c.put_decimal-a.ensures.upper_bound, c.put.ensures.next);
    }
