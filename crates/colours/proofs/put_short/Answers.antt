-- The word and the gap, then the number. Assumes nothing.
use native.Mathlib.Omega.{arith}
use Rattle.colours.specs.Text.{short_of}
use Rattle.colours.proofs.Text.{put_more}
use Rattle.colours.proofs.put_short.Goals as goal

pub returns : goal.returns
unfolding short_of
returns c =
    record {
      put = put_more c.put_bytes-a.ensures c.put_number.ensures.put;
      upper_bound = omega (arith, c.put_bytes-a.ensures, c.put_number.ensures.put, c.put_number.ensures.upper_bound);
    }
