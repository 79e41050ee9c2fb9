-- Rows of pixels at the front of a buffer, four bytes a pixel, whatever rule makes a pixel of its row and column.
--
--   pictured n h rule out        out, with h rows of n pixels at its front, where the pixel of row r and column c is `rule r c`; bytes past
--                                them are as before
--   pictured_to k n h rule out    the same, with the first k of the rows written and no others
--   shifted top left rule        the rule, as it is seen from row `top` and column `left` on
use Rattle.std.specs.Prelude.{ℕ, ◌+◌, ◌*◌, List}
use Rattle.lent.specs.Paint.{painted, whole, up_to}
use Rattle.lent.specs.Pixels.{bytes}
use Rattle.to_rgba_rows.specs.Rules.{row_from}

unfoldable pub pictured : ℕ → ℕ → (ℕ → ℕ → List ℕ) → List ℕ → List ℕ
pictured n h rule out = painted (4 * n) h whole (λ r. bytes (rule r)) out

unfoldable pub pictured_to : ℕ → ℕ → ℕ → (ℕ → ℕ → List ℕ) → List ℕ → List ℕ
pictured_to k n h rule out = painted (4 * n) h (up_to whole k) (λ r. bytes (rule r)) out

abbrev pub shifted : ℕ → ℕ → (ℕ → ℕ → List ℕ) → ℕ → ℕ → List ℕ
shifted top left rule r = row_from left (rule (top + r))
