-- `z ÷ 256` is the floor: 256 times it is at most z, and 256 times one more is above z. Assumes nothing.
use mathlib.Core.Path.{◌≡◌, sym, ◌∙◌, ap}
use Prim.Native.Nat.{ℕ, suc, ◌+◌, ◌*◌, ◌/◌}
use native.Mathlib.Omega.{arith}
use lib.Dec.{le→leb, lt→ltb}
use lib.IntN.{ℤ, pos, negsuc, ◌+ℤ◌, ◌*ℤ◌}
use lib.Signed.{◌≤ℤ◌, ◌<ℤ◌}
use Rattle.colour.specs.Whole.{◌÷◌}
use Rattle.colour.proofs.Whole.{diff, diff_neg, neg_pos, add_pos, sign}

times : (q : ℕ) → pos 256 *ℤ negsuc q ≡ negsuc (256 * q + 255)
times q = neg_pos (256 * suc q) ∙ diff_neg 0 (256 * suc q) (256 * q + 255) (omega arith)

more : (q : ℕ) → negsuc (256 * q + 255) +ℤ pos 256 ≡ diff 256 (256 * q + 256)
more q = ap (λ z. z +ℤ pos 256) (sym (diff_neg 0 (256 * q + 256) (256 * q + 255) (omega arith))) ∙ add_pos 0 (256 * q + 256) 256

pub floor : (z : ℤ) → ((pos 256 *ℤ (z ÷ 256)) ≤ℤ z) × (z <ℤ (pos 256 *ℤ (z ÷ 256) +ℤ pos 256))
floor (pos a) =
    (record { le = le→leb (256 * (a / 256)) a (omega arith) }, record { lt = lt→ltb a (256 * (a / 256) + 256) (omega arith) })
floor (negsuc a) = (
  rw times (record { le = le→leb a (256 * (a / 256) + 255) (omega arith) }),
  rw (times, more) (sign (λ z. negsuc a <ℤ z) 256 (256 * (a / 256) + 256) (λ k e. record { lt = tt }) (λ k e. record { lt = lt→ltb k a (omega arith) })),
)
