-- The four tables of products, and a pixel from what its products add to each channel (R32). (256 Y + p) / 256 is Y + p / 256, so that a
-- product's share of a channel does not depend on Y.
--   red_product v, green_u_product u, green_v_product v, blue_product u      the products at a chroma byte
--   ruled f i n      f i, f (i + 1), .., n of them
--   red_v, green_u, green_v, blue_u      the tables: entry c is the product at the chroma byte c
--   red_share_of v, green_share_of u v, blue_share_of u      what the products add to each channel
--   channel_of y s    a channel of Y and its share
--   shade_of y r g b  the pixel of Y and the shares of its channels
--   Share s z        s is the share z, and small enough that no sum with a byte wraps
--   Tables rv gu gv bu      the four lists are the four tables
use Rattle.std.specs.Prelude.{◌≡◌, List, [], ◌∷◌, ℕ, zero, suc, ◌<◌, ℤ, pos, neg_ℤ, ◌+ℤ◌, ◌*ℤ◌}
use Rattle.std.specs.Int.Signed.{mag}
use Rattle.colour.specs.Whole.{◌÷◌, clamp}
use Rattle.colour.specs.Colour.{centred}

abbrev pub ruled : (ℕ → ℤ) → ℕ → ℕ → List ℤ
ruled f i zero = []
ruled f i (suc n) = f i ∷ ruled f (suc i) n

-- "403v, -48u, -120v and 475u"
abbrev pub red_product : ℕ → ℤ
red_product v = pos 403 *ℤ centred v

abbrev pub green_u_product : ℕ → ℤ
green_u_product u = neg_ℤ (pos 48 *ℤ centred u)

abbrev pub green_v_product : ℕ → ℤ
green_v_product v = neg_ℤ (pos 120 *ℤ centred v)

abbrev pub blue_product : ℕ → ℤ
blue_product u = pos 475 *ℤ centred u

-- "for all 256 chroma bytes"
unfoldable pub red_v : List ℤ
red_v = ruled red_product 0 256

unfoldable pub green_u : List ℤ
green_u = ruled green_u_product 0 256

unfoldable pub green_v : List ℤ
green_v = ruled green_v_product 0 256

unfoldable pub blue_u : List ℤ
blue_u = ruled blue_product 0 256

unfoldable pub red_share_of : ℕ → ℤ
red_share_of v = red_product v ÷ 256

-- the sum of both products is rounded down, and not each of them
unfoldable pub green_share_of : ℕ → ℕ → ℤ
green_share_of u v = (green_u_product u +ℤ green_v_product v) ÷ 256

unfoldable pub blue_share_of : ℕ → ℤ
blue_share_of u = blue_product u ÷ 256

unfoldable pub channel_of : ℕ → ℤ → ℕ
channel_of y s = clamp (s +ℤ pos y)

unfoldable pub shade_of : ℕ → ℤ → ℤ → ℤ → List ℕ
shade_of y r g b = channel_of y r ∷ channel_of y g ∷ channel_of y b ∷ 255 ∷ []

pub record Share (s z : ℤ) : Type 0 where
  pub is : s ≡ z
  pub small : mag s < 512

-- what is lent as the four tables
pub record Tables (rv gu gv bu : List ℤ) : Type 0 where
  pub red : rv ≡ red_v
  pub green_u_lem : gu ≡ green_u
  pub green_v_lem : gv ≡ green_v
  pub blue : bu ≡ blue_u
