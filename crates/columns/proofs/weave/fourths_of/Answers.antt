-- `columns::weave::fourths_of` meets its contract: the first n bytes are all of them.
-- Assumes nothing.
use mathlib.Core.Path.{refl, ◌∙◌}
use borrow.Author.Tests.{lt-ltb}
use Rattle.lent.proofs.Paint.{paint_ext}
use Rattle.columns.proofs.weave.fourths_of.Goals as goal

pub returns : goal.returns
returns c = c.every_nth.ensures ∙ paint_ext _ _ _ _ _ (λ k h. lt-ltb k _ h) (λ k h e. refl)
