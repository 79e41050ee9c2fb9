-- `map_picture::from_short` meets its contract: 2 where the input is short, else 1.
-- Assumes nothing.
use Prim.Native.Nat.{ℕ}
use mathlib.Core.Path.{sym, ◌∙◌}
use mathlib.Core.Bool.{cond}
use Rattle.map_picture.proofs.from_short.Goals as goal

pub returns-then-rgba_short : goal.returns-then-rgba_short
returns-then-rgba_short c = λ i. cond {A = ℕ} ((sym c.if-rgba_short.true ∙ c.rgba_short.ensures) i) 2 1

pub returns-else-rgba_short : goal.returns-else-rgba_short
returns-else-rgba_short c = λ i. cond {A = ℕ} ((sym c.if-rgba_short.false ∙ c.rgba_short.ensures) i) 2 1
