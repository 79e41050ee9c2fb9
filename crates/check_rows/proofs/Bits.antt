-- The bits in which bytes differ, gathered in one number: it is 0 exactly when no byte differs.
-- Assumes nothing.
use Prim.Native.Nat.{ℕ, ◌+◌}
use native.Mathlib.Omega.{arith}
use mathlib.Core.Path.{◌≡◌, sym, ap, ◌∙◌}
use mathlib.Core.Logic.{◌↔◌}
use mathlib.Core.List.{List}
use lib.Bits.{bit_or, bit_xor, and_le_l, and_le_r, or_add_and, xor_add_and, xor_self}
use lib.ListN.{get_or}
use Rattle.check_rows.specs.Rows.{Right}
use Rattle.check_rows.proofs.Rows.{right_more}

pub or_none : (a b : ℕ) → (bit_or a b ≡ 0) ↔ ((a ≡ 0) × (b ≡ 0))
or_none a b = (
  λ e. (omega (arith, or_add_and a b, and_le_r a b), omega (arith, or_add_and a b, and_le_l a b)),
  λ f. omega (arith, or_add_and a b, f.0, f.1),
)

pub xor_none : (a b : ℕ) → (bit_xor a b ≡ 0) ↔ (a ≡ b)
xor_none a b = (λ e. omega (arith, xor_add_and a b, and_le_l a b, and_le_r a b), λ e. ap (bit_xor a) (sym e) ∙ xor_self a)

-- one column more
pub bits_more : (row : List ℕ) (s : ℕ → ℕ) (i bits : ℕ) → (bits ≡ 0) ↔ Right row s i → (bit_or bits (bit_xor (get_or row i 0) (s i)) ≡ 0) ↔ Right row s (i + 1)
bits_more row s i bits f = (
  λ e. let g = (or_none bits (bit_xor (get_or row i 0) (s i))).0 e in right_more row s i (f.0 g.0) ((xor_none _ _).0 g.1),
  λ right. (or_none bits (bit_xor (get_or row i 0) (s i))).1 (f.1 (λ c h. right c (omega arith)), (xor_none _ _).1 (right i (omega arith))),
)
