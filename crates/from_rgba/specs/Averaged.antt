-- A plane after the average (R42).
--
--   averaged p r c     what row r, column c holds after the average of the plane p, whatever p is: p r c is its sample there before
use Rattle.std.specs.Prelude.{ℕ, ◌+◌, ◌%◌, cond, ◌&&◌, [], ◌∷◌, eqb}
use Rattle.colour.specs.Colour.{average_of}

-- "at every even row and even column of the padded planes replace U and V by (sum of the block's four samples + 2)/4"
unfoldable pub averaged : (ℕ → ℕ → ℕ) → ℕ → ℕ → ℕ
averaged p r c =
    cond (eqb (r % 2) 0 && eqb (c % 2) 0) (average_of (p r c ∷ p r (c + 1) ∷ p (r + 1) c ∷ p (r + 1) (c + 1) ∷ [])) (p r c)
