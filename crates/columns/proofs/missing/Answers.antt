-- What `columns::missing` answers is 0: as many bytes as pairs are not too few. The fact of its type and its clause are each shown by themselves,
-- so that a wrong `missing` is refused at both.
-- Assumes nothing.
use mathlib.Core.Path.{ap, ◌∙◌}
use mir.Val.{bool_byte}
use borrow.Author.Tests.{le-ltb}
use Rattle.columns.proofs.missing.Goals as goal

pub invariant_of-result : goal.invariant_of-result
invariant_of-result c = record { is_zero = c.from.ensures ∙ ap bool_byte (le-ltb c.args.m c.args.n c.requires) }

pub returns : goal.returns
returns c = c.from.ensures ∙ ap bool_byte (le-ltb c.args.m c.args.n c.requires)
