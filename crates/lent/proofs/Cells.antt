-- Places of a plane by row and column: row r, column c of a plane of h rows of w bytes is the place r * w + c. All that multiplies two
-- variables is here; elsewhere `omega` does the work. Assumes nothing.
use Prim.Native.Nat.{ℕ, ◌+◌, ◌*◌, ◌/◌, ◌%◌, ◌<◌, ◌≤◌}
use native.Mathlib.Nat.{mul-add-div_right, mul-add-mod_self_right, div-eq_of_lt, mod-eq_of_lt, mod-lt, mul-le-mul_right, suc-mul, add-zero, mul-zero, div-lt_iff_lt-mul, eq-zero-or-pos}
use native.Mathlib.Omega.{arith}
use mathlib.Core.Path.{◌≡◌, ap, ◌∙◌, subst}
use mathlib.Core.Logic.{⊎_elim}

pub cell_row : (w r c : ℕ) → c < w → (r * w + c) / w ≡ r
cell_row w r c h = let pos : 0 < w = omega arith in mul-add-div_right pos r c ∙ ap (λ (q : ℕ). r + q) (div-eq_of_lt h) ∙ add-zero r

pub cell_col : (w r c : ℕ) → c < w → (r * w + c) % w ≡ c
cell_col w r c h = mul-add-mod_self_right r w c ∙ mod-eq_of_lt h

-- the whole of row r is within the plane
pub row_in : (w h r : ℕ) → r < h → r * w + w ≤ h * w
row_in w h r h' = subst (λ (n : ℕ). n ≤ h * w) (suc-mul r w) (mul-le-mul_right w h')

-- a later row starts after an earlier one ends
pub row_after : (w r q : ℕ) → r < q → r * w + w ≤ q * w
row_after w r q h = row_in w q r h

pub cell_in : (w h r c : ℕ) → r < h → c < w → r * w + c < h * w
cell_in w h r c hr hc = omega (arith, row_in w h r hr)

pub width_pos : (w h k : ℕ) → k < h * w → 0 < w
width_pos w h k lt = ⊎_elim (λ z. let none : h * w ≡ 0 = ap (λ (n : ℕ). h * n) z ∙ mul-zero h in omega arith) (λ p. p) (eq-zero-or-pos w)

pub row_of : (w h k : ℕ) → k < h * w → k / w < h
row_of w h k lt = (div-lt_iff_lt-mul (width_pos w h k lt)).1 lt

pub col_of : (w h k : ℕ) → k < h * w → k % w < w
col_of w h k lt = mod-lt k (width_pos w h k lt)
