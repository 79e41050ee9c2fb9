-- What a buffer holds after some of its bytes were given new values. Everything that a call writes is said with these words.
--
--   paint t s xs            xs, with s k at each place k where t k holds
--   painted w h t s xs      the same of the h rows of w bytes at the front of xs, where t and s go by row and column: the byte at
--                           k < h * w, row k / w, column k % w, is s (k / w) (k % w) where t takes it; every other byte is as before
--   every, whole            takes every place; every row and column
--   within a b k            a ≤ k < b
--   box top bottom left right r c      the rows from top to below bottom, the columns from left to below right
--   row_part p row left right r c       of row `row`, the columns from left to below right that p takes
--   up_to t n r c            of what t takes, the rows below n
--   some n p                p holds of some of the first n
use Rattle.std.specs.Prelude.{ℕ, zero, suc, ◌*◌, ◌/◌, ◌%◌, Bool, true, false, cond, ◌&&◌, ◌||◌, List, [], ◌∷◌, ltb, leb, eqb}

unfoldable pub paint : (ℕ → Bool) → (ℕ → ℕ) → List ℕ → List ℕ
paint t s [] = []
paint t s (x ∷ xs) = cond (t zero) (s zero) x ∷ paint (λ k. t (suc k)) (λ k. s (suc k)) xs

unfoldable pub painted : ℕ → ℕ → (ℕ → ℕ → Bool) → (ℕ → ℕ → ℕ) → List ℕ → List ℕ
painted w h t s xs = paint (λ k. ltb k (h * w) && t (k / w) (k % w)) (λ k. s (k / w) (k % w)) xs

abbrev pub every : ℕ → Bool
every k = true

abbrev pub whole : ℕ → ℕ → Bool
whole r c = true

unfoldable pub within : ℕ → ℕ → ℕ → Bool
within a b k = leb a k && ltb k b

unfoldable pub box : ℕ → ℕ → ℕ → ℕ → ℕ → ℕ → Bool
box top bottom left right r c = within top bottom r && within left right c

unfoldable pub row_part : (ℕ → Bool) → ℕ → ℕ → ℕ → ℕ → ℕ → Bool
row_part p row left right r c = eqb r row && within left right c && p c

unfoldable pub up_to : (ℕ → ℕ → Bool) → ℕ → ℕ → ℕ → Bool
up_to t n r c = t r c && ltb r n

unfoldable pub some : ℕ → (ℕ → Bool) → Bool
some zero p = false
some (suc n) p = some n p || p n
