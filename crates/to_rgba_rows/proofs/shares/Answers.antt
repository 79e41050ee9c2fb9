-- `to_rgba_rows::shares` meets its contract. The invariant: the first i of each array are the shares of the first i samples.
-- Assumes nothing.
use native.Mathlib.Omega.{arith}
use mathlib.Core.Path.{◌≡◌}
use lib.ListN.{length-set}
use Rattle.to_rgba_rows.proofs.Shading.{shares_none, shares_more}
use Rattle.to_rgba_rows.proofs.shares.Goals as goal

pub loop-i-init : goal.loop-i-init
loop-i-init c = ((omega arith, omega arith, omega arith), (shares_none, (shares_none, shares_none)))

pub loop-i-preserved : goal.loop-i-preserved
loop-i-preserved c =
    let i = c.loop-i.i in
    let made = c.loop-i.invariant.1 in (
      (simp length-set (omega arith), simp length-set (omega arith), simp length-set (omega arith)),
      (
        shares_more _ i made.0 (omega arith) c.red_share.ensures,
        (shares_more _ i made.1.0 (omega arith) c.green_share.ensures, shares_more _ i made.1.1 (omega arith) c.blue_share.ensures),
      ),
    )

pub returns : goal.returns
returns c =
    let all : c.loop-i.i ≡ c.args.n = omega arith in
    let whole = rw all at c.loop-i.invariant.1 in record { r = whole.0; g = whole.1.0; b = whole.1.1 }
