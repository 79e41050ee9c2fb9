-- What the writers ask of their callers, over lengths.
--
--   BlockFits m stride row         the 16 rows of the macroblocks that row `row` is in are within a plane of m bytes
--   MacroblocksFit m stride rows            a plane of m bytes has all its rows, and its sides are whole macroblocks
--   WideEnough stride wide         a view of this width has room for the picture's columns, and its rows fall into quarters
--   Room ny nu nv wide rows        a view's three planes have room for what is written
use Rattle.std.specs.Prelude.{ℕ, ◌+◌, ◌-◌, ◌*◌, ◌/◌, ◌%◌, ◌≤◌, ◌≡◌}

abbrev pub BlockFits : ℕ → ℕ → ℕ → Type 0
BlockFits m stride row = (row - row % 16 + 16) * stride ≤ m

pub record MacroblocksFit (m stride rows : ℕ) : Type 0 where
  pub fits : rows * stride ≤ m
  pub wide : stride % 16 ≡ 0
  pub high : rows % 16 ≡ 0

pub record WideEnough (stride wide : ℕ) : Type 0 where
  pub enough : stride ≤ wide
  pub fours : wide % 4 ≡ 0

pub record Room (ny nu nv wide rows : ℕ) : Type 0 where
  pub y_room : rows * wide ≤ ny
  pub u_room : rows / 2 * (wide / 2) ≤ nu
  pub v_room : rows / 2 * (wide / 2) ≤ nv
