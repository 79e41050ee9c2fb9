-- Each byte of a row goes to two places.
--
--   spread_at a n from xs      xs, whose n places from a on are the bytes of `from`, each twice
use Rattle.std.specs.Prelude.{ℕ, ◌+◌, ◌-◌, ◌/◌, List, get_or}
use Rattle.lent.specs.Paint.{paint, within}

abbrev pub spread_at : ℕ → ℕ → List ℕ → List ℕ → List ℕ
spread_at a n from xs = paint (within a (a + n)) (λ k. get_or from ((k - a) / 2) 0) xs
