-- A plane as if its rows went on past the stride (R84: "as if the picture's planes were W wide and held Y 0 and U and V 128 past its stride").
--
--   seen fill plane stride r c    the sample at row r, column c below the stride, and `fill` past it
use Rattle.std.specs.Prelude.{ℕ, cond, List, ltb}
use Rattle.lent.specs.Samples.{sample}

unfoldable pub seen : ℕ → List ℕ → ℕ → ℕ → ℕ → ℕ
seen fill plane stride r c = cond (ltb c stride) (sample plane stride r c) fill
