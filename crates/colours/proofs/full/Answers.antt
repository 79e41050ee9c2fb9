-- A full buffer is a whole number of triples. Assumes nothing.
use native.Mathlib.Omega.{arith}
use borrow.Author.Tests.{eqb-true}
use lib.ListN.{take}
use Rattle.colours.proofs.Text.{text_append}
use Rattle.colours.proofs.full.Goals as goal

pub returns : goal.returns
returns c e rest = text_append (take c.args.n c.args.rgb.now) rest (omega (arith, eqb-true))
