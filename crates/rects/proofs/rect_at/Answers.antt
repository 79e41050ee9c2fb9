-- `rects::rect_at` meets its contract: the four numbers from place 4 i on. Rectangle i is below length / 4, so all four are there.
-- Assumes nothing.
use mathlib.Core.Path.{refl}
use Rattle.rects.proofs.rect_at.Goals as goal

pub returns : goal.returns
returns c = refl
