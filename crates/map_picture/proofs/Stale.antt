-- How many pixels of a rectangle lie in blocks that are not 2: at most those of the clipped rectangle; none where every block is 2, as right after from
-- RGBA; all of them where no block is, as in a fresh picture; none in an empty rectangle.
-- Assumes nothing.
use Prim.Native.Nat.{ℕ, ◌+◌, ◌*◌, ◌/◌, ◌≤◌, ◌<◌}
use native.Mathlib.Nat.{mul-zero, mul-one, mul_comm}
use native.Mathlib.Omega.{arith}
use mathlib.Core.Path.{◌≡◌, ap, ◌∙◌}
use mathlib.Core.Bool.{Bool, true, false, not}
use mathlib.Core.List.{List}
use lib.ListN.{length}
use borrow.Author.Tests.{eq-eqb, ne_eqb}
use Rattle.lent.specs.Counts.{total, one}
use Rattle.lent.specs.Paint.{whole}
use Rattle.lent.specs.Samples.{sample}
use Rattle.lent.proofs.Counts.{total_same}
use Rattle.lent.proofs.Painted.{painted_at}
use Rattle.picture.specs.declared.Size.{Size}
use Rattle.rects.specs.declared.Rect.{Rect}
use Rattle.to_rgba.specs.Picture as shown
use Rattle.to_rgba.specs.Picture.{to_rgba_count_of}
use Rattle.map.specs.Map.{across_of, down_of, map_of, held_of, stale}
use Rattle.map.proofs.StaleCounts as rows
use Rattle.map.proofs.StaleCounts.{total_const}
use Rattle.map_picture.specs.Shown.{stale_in}

total_each : (n a : ℕ) {f : ℕ → ℕ} → ((k : ℕ) → k < n → f k ≡ a) → total n f ≡ n * a
total_each n a each = total_same n each ∙ total_const n a

-- what the map holds, once every block is set to what s says
pub held_made : (z : Size) (s : ℕ → ℕ → ℕ) (m : List ℕ) (i j : ℕ) → down_of z * across_of z ≤ length m → i < down_of z → j < across_of z → held_of z (map_of z s m) i j ≡ s i j
unfolding sample
held_made z s m i j fits hi hj = painted_at (across_of z) (down_of z) whole s m i j hi hj fits

module _ (z : Size) (q : Rect) (m : List ℕ) where
  pub stale_low : stale_in z q m ≤ shown.across_of z q * shown.down_of z q
  unfolding stale_in
  stale_low = omega (
    arith,
    mul_comm (shown.across_of z q) (shown.down_of z q),
    rows.stale_low (across_of z) q.left q.top (shown.across_of z q) (shown.down_of z q) m,
  )

  -- an empty, a reversed or an off-picture rectangle has no pixel
  pub stale_empty : to_rgba_count_of z q ≡ 0 → 0 ≡ stale_in z q m
  stale_empty empty = omega (arith, stale_low)

  -- every block of the map is as stale as the others
  stale_each : (b : Bool) → ((i j : ℕ) → i < down_of z → j < across_of z → stale (held_of z m i j) ≡ b) → stale_in z q m ≡ shown.down_of z q * (shown.across_of z q * one b)
  unfolding stale_in
  stale_each b each =
      total_each (shown.down_of z q) (shown.across_of z q * one b)
      (λ r hr. total_each (shown.across_of z q) (one b) (λ c hc. ap one (each ((q.top + r) / 2) ((q.left + c) / 2) (omega arith) (omega arith))))

  pub stale_none : ((i j : ℕ) → i < down_of z → j < across_of z → held_of z m i j ≡ 2) → stale_in z q m ≡ 0
  stale_none complete =
      stale_each false (λ i j hi hj. ap not (eq-eqb _ 2 (complete i j hi hj)))
      ∙ ap (λ (n : ℕ). shown.down_of z q * n) (mul-zero (shown.across_of z q))
      ∙ mul-zero (shown.down_of z q)

  pub stale_all : ((i j : ℕ) → i < down_of z → j < across_of z → held_of z m i j ≡ 2 → ⊥) → stale_in z q m ≡ shown.across_of z q * shown.down_of z q
  stale_all never =
      stale_each true (λ i j hi hj. ap not (ne_eqb _ 2 (never i j hi hj)))
      ∙ ap (λ (n : ℕ). shown.down_of z q * n) (mul-one (shown.across_of z q))
      ∙ mul_comm (shown.down_of z q) (shown.across_of z q)

-- right after from RGBA no pixel is stale; of a fresh picture every pixel is
module _ (z : Size) (q : Rect) (m : List ℕ) (fits : down_of z * across_of z ≤ length m) where
  pub stale_made : stale_in z q (map_of z (λ i j. 2) m) ≡ 0
  stale_made = stale_none z q _ (λ i j hi hj. held_made z _ m i j fits hi hj)

  pub stale_fresh : stale_in z q (map_of z (λ i j. 0) m) ≡ shown.across_of z q * shown.down_of z q
  stale_fresh = stale_all z q _ (λ i j hi hj is. omega (arith, held_made z (λ i j. 0) m i j fits hi hj))
