-- What a table's entry adds to a channel: the entry is the rule's product, its floor fits 16 bits, and a channel of Y and its share is the
-- document's formula. Assumes nothing.
use mathlib.Core.Path.{◌≡◌, refl, sym, ap, ◌∙◌}
use mathlib.Core.Bool.{true, false, true≢false}
use mathlib.Core.List.{List, [], ◌∷◌}
use Prim.Native.Nat.{ℕ, zero, suc, ◌+◌, ◌≤◌, ◌<◌}
use native.Mathlib.Nat.{add-zero, zero-add, add-suc, suc-add, le_of_suc-le-suc, not-suc-le-zero}
use native.Mathlib.Omega.{arith}
use lib.IntN.{ℤ, pos, negsuc, nat_abs, ◌+ℤ◌}
use lib.ListN.{get_or}
use lib.Dec.{T}
use lib.Signed.{mag, lt_z, non_neg}
use borrow.Author.Tests.{ltb-true, ltb-false}
use mir.Syntax.{w8, w16, w32}
use mir.Val.{Fits, SFits, to_z, of_z}
use mir.Facts.{to_z-of_z, to_z_pos}
use Rattle.colour.specs.Whole.{◌÷◌, clamp}
use Rattle.colour.specs.Colour.{red_of, green_of, blue_of, reverse_of}
use Rattle.colour.specs.declared.products.TheConstants.{RED_V, GREEN_U, GREEN_V, BLUE_U}
use Rattle.colour.specs.Products.{red_product, green_u_product, green_v_product, blue_product, ruled, red_v, green_u, green_v, blue_u, red_share_of, green_share_of, blue_share_of, channel_of, shade_of, Share, Tables}
use Rattle.colour.proofs.Whole.{diff, sub_diff, sign, differences, wholes}

-- ---- a table's entry is its rule's number

from : (f : ℕ → ℤ) (n i k : ℕ) → k < n → get_or (ruled f i n) k (pos 0) ≡ f (i + k)
from f zero i k h = absurd (not-suc-le-zero h)
from f (suc n) i zero h = ap f (sym (add-zero i))
from f (suc n) i (suc k) h = from f n (suc i) k (le_of_suc-le-suc h) ∙ ap f (suc-add i k ∙ sym (add-suc i k))

-- what is read at the place k of a chroma byte c, from a list that is the rule's table
entry : (f : ℕ → ℤ) {t : List ℤ} {k c : ℕ} → t ≡ ruled f 0 256 → k ≡ c → k < 256 → get_or t k (pos 0) ≡ f c
entry f {t} {k} {c} is at h = ap (λ (l : List ℤ). get_or l k (pos 0)) is ∙ from f 256 0 k h ∙ ap f (zero-add k ∙ at)

-- ---- products and floors are small

mag_diff : (a b k : ℕ) → a < b + k → b ≤ a + k → mag (diff a b) < k
mag_diff a b k h h' = sign (λ z. mag z < k) a b (λ j e. omega arith) (λ j e. omega arith)

module _ (c : ℕ) (h : c < 256) where
  pub red_small : mag (red_product c) < 65536
  red_small = simp differences (mag_diff _ _ _ (omega arith) (omega arith))

  pub blue_small : mag (blue_product c) < 65536
  blue_small = simp differences (mag_diff _ _ _ (omega arith) (omega arith))

  pub green_u_small : mag (green_u_product c) < 65536
  green_u_small = simp differences (mag_diff _ _ _ (omega arith) (omega arith))

  pub green_v_small : mag (green_v_product c) < 65536
  green_v_small = simp differences (mag_diff _ _ _ (omega arith) (omega arith))

pub green_small : (u v : ℕ) → u < 256 → v < 256 → mag (green_u_product u +ℤ green_v_product v) < 65536
green_small u v hu hv = simp differences (mag_diff _ _ _ (omega arith) (omega arith))

floor_small : (p : ℤ) → mag p < 65536 → mag (p ÷ 256) < 256
floor_small (pos a) h = omega arith
floor_small (negsuc a) h = omega arith

-- ---- as the machine has them: a local holds bits, and what is read back is the number where it fits

kept : (p : ℤ) → mag p < 65536 → to_z w32 (of_z w32 p) ≡ p
kept p h = let f : SFits w32 p = record { sfits = omega arith } in to_z-of_z f

module _ (p : ℤ) (h : mag p < 65536) where
  pub floor_fits : SFits w16 (to_z w32 (of_z w32 ((to_z w32 (of_z w32 p)) ÷ 256)))
  floor_fits = let f = floor_small p h in rw (kept p h, kept (p ÷ 256) (omega arith)) (record { sfits = omega arith })

  pub floor_kept : to_z w16 (of_z w16 (to_z w32 (of_z w32 ((to_z w32 (of_z w32 p)) ÷ 256)))) ≡ p ÷ 256
  floor_kept =
      let f = floor_small p h in
      let g : SFits w16 (p ÷ 256) = record { sfits = omega arith } in
      rw (kept p h, kept (p ÷ 256) (omega arith)) (to_z-of_z g)

-- the floor of what was read is the share
shared : (p : ℤ) {raw s : ℤ} → raw ≡ p → mag p < 65536 → s ≡ (to_z w32 (of_z w32 raw)) ÷ 256 → Share (to_z w16 (of_z w16 s)) (p ÷ 256)
shared p {raw} {s} e h is =
    let s-is : s ≡ p ÷ 256 = is ∙ ap (λ (z : ℤ). (to_z w32 (of_z w32 z)) ÷ 256) e ∙ ap (λ (z : ℤ). z ÷ 256) (kept p h) in
    let small = floor_small p h in
    let g : SFits w16 (p ÷ 256) = record { sfits = omega arith } in
    rw s-is (record { is = to_z-of_z g; small = rw (to_z-of_z g) (omega arith) })

-- a share that is handed on is the same share
pub passed : {s z : ℤ} → Share s z → to_z w16 (of_z w16 s) ≡ z
passed {s} h = let small = h.small in let f : SFits w16 s = record { sfits = omega arith } in to_z-of_z f ∙ h.is

-- one product from its table
module _ (f : ℕ → ℤ) (small : (c : ℕ) → c < 256 → mag (f c) < 65536) {t : List ℤ} {c : ℕ} (is : t ≡ ruled f 0 256) (h : c < 256) where
  pub one_small : mag (to_z w32 (of_z w32 (get_or t c (pos 0)))) < 65536
  one_small = let s = small c h in rw (entry f is refl h, kept (f c) s) s

  pub one_shared : {s : ℤ} → s ≡ (to_z w32 (of_z w32 (get_or t c (pos 0)))) ÷ 256 → Share (to_z w16 (of_z w16 s)) (f c ÷ 256)
  one_shared e = shared (f c) (entry f is refl h) (small c h) e

-- the sum of one product from each of two tables
module _ (f g : ℕ → ℤ) (fs : (c : ℕ) → c < 256 → mag (f c) < 65536) (gs : (c : ℕ) → c < 256 → mag (g c) < 65536) (both : (a b : ℕ) → a < 256 → b < 256 → mag (f a +ℤ g b) < 65536) {t r : List ℤ} {a b : ℕ} (is : t ≡ ruled f 0 256) (js : r ≡ ruled g 0 256) (ha : a < 256) (hb : b < 256) where
  sum : to_z w32 (of_z w32 (get_or t a (pos 0))) +ℤ to_z w32 (of_z w32 (get_or r b (pos 0))) ≡ f a +ℤ g b
  sum = rw (entry f is refl ha, entry g js refl hb, kept (f a) (fs a ha), kept (g b) (gs b hb))

  pub sum_fits : SFits w32 (to_z w32 (of_z w32 (get_or t a (pos 0))) +ℤ to_z w32 (of_z w32 (get_or r b (pos 0))))
  sum_fits = let s = both a b ha hb in rw sum (record { sfits = omega arith })

  pub sum_small : mag (to_z w32 (of_z w32 (to_z w32 (of_z w32 (get_or t a (pos 0))) +ℤ to_z w32 (of_z w32 (get_or r b (pos 0)))))) < 65536
  sum_small = let s = both a b ha hb in rw (sum, kept (f a +ℤ g b) s) s

  pub sum_shared : {s : ℤ} → s ≡ (to_z w32 (of_z w32 (to_z w32 (of_z w32 (get_or t a (pos 0))) +ℤ to_z w32 (of_z w32 (get_or r b (pos 0)))))) ÷ 256 → Share (to_z w16 (of_z w16 s)) ((f a +ℤ g b) ÷ 256)
  sum_shared e = shared (f a +ℤ g b) sum (both a b ha hb) e

-- ---- a channel, clamped: below 0, from 0 to 254, above

clamp-below : (z : ℤ) → lt_z z (pos 0) ≡ true → 0 ≡ clamp z
clamp-below (pos a) e = omega (arith, ltb-true a 0 e)
clamp-below (negsuc a) e = refl

clamp-inside : (z : ℤ) → lt_z z (pos 0) ≡ false → lt_z z (pos 255) ≡ true → nat_abs z ≡ clamp z
clamp-inside (pos a) e f = omega (arith, ltb-true a 255 f)
clamp-inside (negsuc a) e f = absurd (true≢false e)

inside_fits : (z : ℤ) → lt_z z (pos 0) ≡ false → lt_z z (pos 255) ≡ true → T (non_neg z) × Fits w8 (nat_abs z)
inside_fits (pos a) e f = (tt, record { fits = omega (arith, ltb-true a 255 f) })
inside_fits (negsuc a) e f = absurd (true≢false e)

clamp_over : (z : ℤ) → lt_z z (pos 0) ≡ false → lt_z z (pos 255) ≡ false → 255 ≡ clamp z
clamp_over (pos a) e f = omega (arith, ltb-false a 255 f)
clamp_over (negsuc a) e f = absurd (true≢false e)

module _ (y : ℕ) (s : ℤ) (hy : y < 256) (hs : mag s < 512) where
  plus_small : (s : ℤ) → mag s < 512 → mag (s +ℤ pos y) < 1024
  plus_small (pos a) h = omega arith
  plus_small (negsuc a) h = rw (sub_diff y (suc a)) (mag_diff y (suc a) 1024 (omega arith) (omega arith))

  plus : to_z w16 (of_z w16 s) +ℤ to_z w16 y ≡ s +ℤ pos y
  plus = let f : SFits w16 s = record { sfits = omega arith } in rw (to_z-of_z f, to_z_pos w16 {n = y} (omega arith))

  pub plus_fits : SFits w16 (to_z w16 (of_z w16 s) +ℤ to_z w16 y)
  plus_fits = let h = plus_small s hs in rw plus (record { sfits = omega arith })

  plus_kept : to_z w16 (of_z w16 (to_z w16 (of_z w16 s) +ℤ to_z w16 y)) ≡ s +ℤ pos y
  plus_kept = to_z-of_z plus_fits ∙ plus

  pub below : lt_z (to_z w16 (of_z w16 (to_z w16 (of_z w16 s) +ℤ to_z w16 y))) (pos 0) ≡ true → 0 ≡ channel_of y s
  unfolding channel_of
  below e = clamp-below (s +ℤ pos y) (rw plus_kept at e)

  module _ (a : lt_z (to_z w16 (of_z w16 (to_z w16 (of_z w16 s) +ℤ to_z w16 y))) (pos 0) ≡ false) where
    module _ (b : lt_z (to_z w16 (of_z w16 (to_z w16 (of_z w16 s) +ℤ to_z w16 y))) (pos 255) ≡ true) where
      pub byte_fits : T (non_neg (to_z w16 (of_z w16 (to_z w16 (of_z w16 s) +ℤ to_z w16 y)))) × Fits w8 (nat_abs (to_z w16 (of_z w16 (to_z w16 (of_z w16 s) +ℤ to_z w16 y))))
      byte_fits = rw plus_kept (inside_fits (s +ℤ pos y) (rw plus_kept at a) (rw plus_kept at b))

      pub byte_is : nat_abs (to_z w16 (of_z w16 (to_z w16 (of_z w16 s) +ℤ to_z w16 y))) ≡ channel_of y s
      unfolding channel_of
      byte_is = rw plus_kept (clamp-inside (s +ℤ pos y) (rw plus_kept at a) (rw plus_kept at b))

    pub over : lt_z (to_z w16 (of_z w16 (to_z w16 (of_z w16 s) +ℤ to_z w16 y))) (pos 255) ≡ false → 255 ≡ channel_of y s
    unfolding channel_of
    over b = clamp_over (s +ℤ pos y) (rw plus_kept at a) (rw plus_kept at b)

-- ---- a channel of Y and its share is the document's formula

module _ (y u v : ℕ) where
  red_shared : channel_of y (red_share_of v) ≡ red_of y v
  unfolding channel_of red_share_of red_of
  red_shared = simp wholes (omega arith)

  green_shared : channel_of y (green_share_of u v) ≡ green_of y u v
  unfolding channel_of green_share_of green_of
  green_shared = simp wholes (omega arith)

  blue_shared : channel_of y (blue_share_of u) ≡ blue_of y u
  unfolding channel_of blue_share_of blue_of
  blue_shared = simp wholes (omega arith)

  pub reverse_shared : shade_of y (red_share_of v) (green_share_of u v) (blue_share_of u) ≡ reverse_of y u v
  unfolding shade_of reverse_of
  reverse_shared = λ i. red_shared i ∷ green_shared i ∷ blue_shared i ∷ 255 ∷ []

-- ---- all 1,024 entries are the products

pub tables_exact : Tables RED_V GREEN_U GREEN_V BLUE_U
unfolding red_v green_u green_v blue_u
tables_exact = record { red = refl; green_u_lem = refl; green_v_lem = refl; blue = refl }
