-- What the writers ask of their callers: no index is out of range, and no product wraps. In each, out, y, u and v are the buffers' lengths.
--
--   PartFits, EvenPartFits      a part of a row: as it stands, or with the blocks that filter it
--   BlocksFit                   blocks of U and V, and what is made of them: p, q and marks are lengths too
--   MarksFit xs                 32 marks, and their sum fits 16 bits
--   RowFits, PixelRowsFit       a row of a picture, and its rows
--   PairedFits                  a row of a view, two pixels for each sample of chroma
--   LinesFit, ViewPartFits, ViewLinesFit      rows of a view that share their chroma: their luma alone; a part of them; the rows
--   Shares n xs z               the first n of xs are the shares z
--   Small n xs                  the first n of xs are small enough that no sum with a byte wraps
use Rattle.std.specs.Prelude.{◌≡◌, List, ℕ, ◌+◌, ◌*◌, ◌/◌, ◌%◌, ◌≤◌, ◌<◌, ℤ, pos, length, get_or}
use Rattle.std.specs.Int.Signed.{mag}
use Rattle.colour.specs.Products.{Share}

-- n pixels, luma from `at` on and chroma from c on
pub record PartFits (out y u v at c n : ℕ) : Type 0 where
  pub exact : out ≡ 4 * n
  pub few : n ≤ 64
  pub y_has : at + n ≤ y
  pub u_has : c + n ≤ u
  pub v_has : c + n ≤ v

-- n pixels from `at` on, with the blocks whose lower row starts at `below`
pub record EvenPartFits (out y u v at below n : ℕ) : Type 0 where
  pub exact : out ≡ 4 * n
  pub few : n ≤ 64
  pub y_has : at + n ≤ y
  pub u_has : at + 2 * ((n + 1) / 2) ≤ u
  pub v_has : at + 2 * ((n + 1) / 2) ≤ v
  pub u_below : below + 2 * ((n + 1) / 2) ≤ u
  pub v_below : below + 2 * ((n + 1) / 2) ≤ v

-- as many blocks, whose rows start at `at` and `below`
pub record BlocksFit (p q marks u v at below blocks : ℕ) : Type 0 where
  pub few : blocks ≤ 32
  pub p_long : p ≡ 64
  pub q_long : q ≡ 64
  pub marks_long : marks ≡ 32
  pub u_has : at + 2 * blocks ≤ u
  pub v_has : at + 2 * blocks ≤ v
  pub u_below : below + 2 * blocks ≤ u
  pub v_below : below + 2 * blocks ≤ v

pub record MarksFit (xs : List ℕ) : Type 0 where
  pub long : length xs ≡ 32
  pub low : (i : ℕ) → i < 32 → get_or xs i 0 ≤ 257

-- n pixels of row `row` of a picture from column `left` on; `reach` is how far from the row's start the chroma is read
pub record RowFits (out y u v reach stride row left n : ℕ) : Type 0 where
  pub exact : out ≡ 4 * n
  pub inside : left + n ≤ stride
  pub y_fits : row * stride + stride ≤ y
  pub u_fits : row * stride + reach ≤ u
  pub v_fits : row * stride + reach ≤ v

-- a picture's planes, and h rows of n pixels from row `top` and column `left` on
pub record PixelRowsFit (out y u v stride rows left top n h : ℕ) : Type 0 where
  pub room : h * (4 * n) ≤ out
  pub some : 0 < n
  pub small : n < 65536
  pub inside : left + n ≤ stride
  pub below : top + h ≤ rows
  pub y_fits : rows * stride ≤ y
  pub u_fits : rows * stride ≤ u
  pub v_fits : rows * stride ≤ v
  pub even_stride : stride % 2 ≡ 0
  pub even_rows : rows % 2 ≡ 0

-- n pixels of a row of a view, luma from `at` on and chroma from c on
pub record PairedFits (out y u v at c n : ℕ) : Type 0 where
  pub exact : out ≡ 4 * n
  pub y_has : at + n ≤ y
  pub u_has : c + (n + 1) / 2 ≤ u
  pub v_has : c + (n + 1) / 2 ≤ v

-- columns k to below k + m of `lines` rows of n pixels, whose luma starts at `at`
pub record LinesFit (out y luma at n k m lines : ℕ) : Type 0 where
  pub exact : out ≡ lines * (4 * n)
  pub small : n < 65536
  pub few : m ≤ 64
  pub inside : k + m ≤ n
  pub wide : n ≤ luma
  pub y_has : at + lines * luma ≤ y

-- the same with their chroma, which starts at c
pub record ViewPartFits (out y u v luma at c n k m lines : ℕ) : Type 0 where
  pub fits : LinesFit out y luma at n k m lines
  pub u_has : c + (m + 1) / 2 ≤ u
  pub v_has : c + (m + 1) / 2 ≤ v

-- at most two rows of n pixels of a view, from the even row `row` on
pub record ViewLinesFit (out y u v luma chroma row n lines : ℕ) : Type 0 where
  pub exact : out ≡ lines * (4 * n)
  pub small : n < 65536
  pub few : lines ≤ 2
  pub even_row : row % 2 ≡ 0
  pub wide : n ≤ luma
  pub y_fits : row * luma + lines * luma ≤ y
  pub u_fits : row / 2 * chroma + (n + 1) / 2 ≤ u
  pub v_fits : row / 2 * chroma + (n + 1) / 2 ≤ v

pub record Shares (n : ℕ) (xs : List ℤ) (z : ℕ → ℤ) : Type 0 where
  pub at : (k : ℕ) → k < n → Share (get_or xs k (pos 0)) (z k)

pub record Small (n : ℕ) (xs : List ℤ) : Type 0 where
  pub at : (k : ℕ) → k < n → mag (get_or xs k (pos 0)) < 512
