-- What a row writer asks of its caller: the part of a row is n bytes, an even number, and its sources, of m, mu and mv bytes, have what
-- is read.
--
--   OddsFit      one byte of the source for every two columns
--   EvensFit     one byte of each of two sources for every four columns, from the one or the other on
use Rattle.std.specs.Prelude.{ℕ, ◌+◌, ◌*◌, ◌/◌, ◌%◌, ◌<◌, ◌≤◌, ◌≡◌}

pub record OddsFit (n m : ℕ) : Type 0 where
  pub pairs : n % 2 ≡ 0
  pub seen : n ≤ 2 * m

pub record EvensFit (n mu mv lead : ℕ) : Type 0 where
  pub pairs : n % 2 ≡ 0
  pub first : lead < 2
  pub seen_u : (lead + n / 2 + 1) / 2 ≤ mu
  pub seen_v : (lead + n / 2 + 1) / 2 ≤ mv
