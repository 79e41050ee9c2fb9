-- `check_pair::Checked::answered` meets its contract: each verdict has its answer.
-- Assumes nothing.
use mathlib.Core.Path.{refl}
use Rattle.check_pair.proofs.Checked.answered.Goals as goal

pub returns-in-Same : goal.returns-in-Same
returns-in-Same c = rw c.in-Same.is refl

pub returns-in-Sizes : goal.returns-in-Sizes
returns-in-Sizes c = rw c.in-Sizes.is refl

pub returns-in-Wrong : goal.returns-in-Wrong
returns-in-Wrong c = rw c.in-Wrong.is refl
