-- The walk over rows, once for every rule that makes a pixel: each row is lent as a part of the output, written whole, and comes back.
-- Assumes nothing.
use Prim.Native.Nat.{ℕ, ◌+◌, ◌*◌, ◌/◌, ◌%◌, ◌-◌, ◌<◌, ◌≤◌}
use native.Mathlib.Nat.{mul_comm, mul_assoc, add-mul, mul-le-mul_right}
use native.Mathlib.Omega.{arith}
use mathlib.Core.Path.{◌≡◌, refl, ap, ◌∙◌}
use mathlib.Core.List.{List, ◌++◌}
use lib.ListN.{length, get_or, take, drop}
use Rattle.lent.specs.Paint.{paint, painted, every, whole}
use Rattle.lent.specs.Pixels.{bytes}
use Rattle.lent.proofs.Cells.{row_in, cell_in, width_pos}
use Rattle.lent.proofs.Painted.{painted_none, painted_at, painted_past, painted_ext}
use Rattle.lent.proofs.Rows.{whole_none, whole_more, whole_all}
use Rattle.lent.proofs.ManyRows.{many_more}
use Rattle.to_rgba.specs.Pictured.{pictured, pictured_to}

pub bytes_of : (n h : ℕ) → h * (4 * n) ≡ 4 * (n * h)
bytes_of n h = mul_comm h (4 * n) ∙ mul_assoc 4 n h

-- the part that is lent for row r is within the output
pub row_room : (n h r out : ℕ) → r < h → h * (4 * n) ≤ out → r * (4 * n) + 4 * n ≤ out
row_room n h r out lt room = omega (arith, row_in (4 * n) h r lt)

-- and so is what is lent for several rows
pub lines_room : (n h r lines out : ℕ) → r + lines ≤ h → h * (4 * n) ≤ out → r * (4 * n) + lines * (4 * n) ≤ out
lines_room n h r lines out le room = omega (arith, add-mul r lines (4 * n), mul-le-mul_right (4 * n) le)

module _ (n h : ℕ) (rule : ℕ → ℕ → List ℕ) (out : List ℕ) where
  pub pictured_none : out ≡ pictured_to 0 n h rule out
  unfolding pictured_to
  pictured_none = whole_none (4 * n) h _ out

  pub pictured_more : {was is ys : List ℕ} (r : ℕ) → r < h → h * (4 * n) ≤ length out → was ≡ pictured_to r n h rule out
      → ys ≡ paint every (bytes (rule r)) (take (r * (4 * n) + 4 * n - r * (4 * n)) (drop (r * (4 * n)) was))
      → is ≡ take (r * (4 * n)) was ++ (ys ++ drop (r * (4 * n) + 4 * n - r * (4 * n)) (drop (r * (4 * n)) was))
      → is ≡ pictured_to (r + 1) n h rule out
  unfolding pictured_to
  pictured_more r lt room before wrote back = whole_more (4 * n) h (λ q. bytes (rule q)) out r lt room before wrote back

  -- several rows were lent at once
  pub pictured_lines : {was is ys : List ℕ} (r lines a e : ℕ) → r + lines ≤ h → h * (4 * n) ≤ length out → a ≡ r * (4 * n) → e ≡ r * (4 * n) + lines * (4 * n)
      → was ≡ pictured_to r n h rule out
      → ys ≡ painted (4 * n) lines whole (λ l. bytes (rule (r + l))) (take (e - a) (drop a was))
      → is ≡ take a was ++ (ys ++ drop (e - a) (drop a was))
      → is ≡ pictured_to (r + lines) n h rule out
  unfolding pictured_to
  pictured_lines r lines a e lt room a-is e-is before wrote back =
      many_more (4 * n) h (λ q. bytes (rule q)) out room r lines a e _ lt a-is e-is before wrote (λ q c hq hc. refl) back

  pub pictured_all : (r : ℕ) → h ≤ r → pictured_to r n h rule out ≡ pictured n h rule out
  unfolding pictured_to pictured
  pictured_all r end = whole_all (4 * n) h _ out r end

  -- no pixel, no byte
  pub pictured_empty : 4 * (n * h) ≡ 0 → out ≡ pictured n h rule out
  unfolding pictured
  pictured_empty none = painted_none (4 * n) h whole _ out (λ r c hr hc. absurd (omega (arith, cell_in (4 * n) h r c hr hc, bytes_of n h)))

  -- ---- what a pictured buffer holds

  -- byte j of the pixel at row r, column c
  pub pictured_at : (r c j : ℕ) → r < h → c < n → j < 4 → h * (4 * n) ≤ length out → get_or (pictured n h rule out) (r * (4 * n) + (4 * c + j)) 0 ≡ get_or (rule r c) j 0
  unfolding pictured bytes
  pictured_at r c j hr hc hj room =
      let col : (4 * c + j) / 4 ≡ c = omega arith in
      let byte : (4 * c + j) % 4 ≡ j = omega arith in
      painted_at (4 * n) h whole _ out r (4 * c + j) hr (omega arith) room ∙ (λ i. get_or (rule r (col i)) (byte i) 0)

  -- bytes past the pixels stay
  pub pictured_past : (k : ℕ) → 4 * (n * h) ≤ k → k < length out → get_or (pictured n h rule out) k 0 ≡ get_or out k 0
  unfolding pictured
  pictured_past k past lt = painted_past (4 * n) h whole _ out k (omega (arith, bytes_of n h)) lt

  -- by the pixels alone
  pub pictured_ext : (rule' : ℕ → ℕ → List ℕ) → ((r c : ℕ) → r < h → c < n → rule r c ≡ rule' r c) → pictured n h rule out ≡ pictured n h rule' out
  unfolding pictured bytes
  pictured_ext rule' same =
      painted_ext (4 * n) h _ _ _ _ out (λ r k hr hk. refl) (λ r k hr hk e. ap (λ (p : List ℕ). get_or p (k % 4) 0) (same r (k / 4) hr (omega arith)))

-- some pixel, so some column and some row
module _ (n h : ℕ) (some : 0 < 4 * (n * h)) where
  pub some_column : 0 < n
  some_column = width_pos n h 0 (omega (arith, mul_comm n h))

  pub some_row : 0 < h
  some_row = width_pos h n 0 (omega arith)
