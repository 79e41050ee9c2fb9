-- What the row writers ask of their callers, over lengths.
--
--   StepsFit n m step stride row    a row of n bytes takes each step-th sample of row `row` of a plane of m bytes
--   WideFits n m step stride row    a row of n bytes has room for them, and may go on
use Rattle.std.specs.Prelude.{ℕ, ◌+◌, ◌*◌, ◌%◌, ◌≤◌, ◌≡◌}

pub record StepsFit (n m step stride row : ℕ) : Type 0 where
  pub exact : step * n ≡ stride
  pub reach : row * stride + stride ≤ m

pub record WideFits (n m step stride row : ℕ) : Type 0 where
  pub even : stride % step ≡ 0
  pub room : stride ≤ step * n
  pub reach : row * stride + stride ≤ m
