-- Each way out has put the digits of n, one by one. Assumes nothing.
use native.Mathlib.Omega.{arith}
use Rattle.colours.proofs.Text.{put_more, one_digit, two_digits, three_digits}
use Rattle.colours.proofs.put_decimal.Goals as goal

pub returns-then-n-lt10 : goal.returns-then-n-lt10
returns-then-n-lt10 c =
    let n = c.args.n in
    record {
      put = rw (one_digit n c.if-n-lt10.true) c.put.ensures;
      upper_bound = omega (arith, c.put.ensures.next);
    }

pub returns-then-n-lt100 : goal.returns-then-n-lt100
returns-then-n-lt100 c =
    let n = c.args.n in record {
      put = rw (two_digits n c.if-n-lt10.false c.if-n-lt100.true) (put_more c.put-a.ensures c.put-then-n-lt100.ensures);
      upper_bound = omega (arith, c.put-a.ensures.next, c.put-then-n-lt100.ensures.next);
    }

pub returns : goal.returns
returns c =
    let n = c.args.n in record {
      put = rw (three_digits n c.if-n-lt100.false c.ranges.n.fits)
          (put_more c.put-a-2.ensures (put_more c.put-b.ensures c.put-2.ensures));
      upper_bound = omega (arith, c.put-a-2.ensures.next, c.put-b.ensures.next, c.put-2.ensures.next);
    }
