-- A row of pixels of four bytes each, as bytes.
--
--   bytes f k        byte k of a row whose pixel j is f j
--   done f n xs      xs, with the first n pixels of the row f
use Rattle.std.specs.Prelude.{ℕ, ◌*◌, ◌/◌, ◌%◌, List, ltb, get_or}
use Rattle.lent.specs.Paint.{paint}

unfoldable pub bytes : (ℕ → List ℕ) → ℕ → ℕ
bytes f k = get_or (f (k / 4)) (k % 4) 0

abbrev pub done : (ℕ → List ℕ) → ℕ → List ℕ → List ℕ
done f n xs = paint (λ k. ltb k (4 * n)) (bytes f) xs
