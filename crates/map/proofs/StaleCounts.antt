-- Counts over the map: a part of a row is counted, a row of one value is, two pixels of a row have one block between them, and so have
-- two rows.
-- Assumes nothing.
use Prim.Native.Nat.{ℕ, zero, suc, ◌+◌, ◌*◌, ◌-◌, ◌/◌, ◌%◌, ◌≤◌, ◌<◌}
use native.Mathlib.Nat.{suc-mul, zero-mul}
use native.Mathlib.Numerals.{add-one}
use native.Mathlib.Omega.{arith}
use mathlib.Core.Path.{◌≡◌, refl, sym, ap, ◌∙◌}
use mathlib.Core.Bool.{Bool, true, false}
use mathlib.Core.List.{List}
use lib.ListN.{length, get_or, take, drop, length-drop}
use lib.Seq.{get_or-take, get_or-drop, length-take-le}
use mir.Val.{bool_byte}
use Rattle.lent.specs.Counts.{total, one, count_of}
use Rattle.lent.specs.Samples.{sample}
use Rattle.lent.proofs.Counts.{total_none, total-one, total_more, total_same, total_low, count_low}
use Rattle.map.specs.Map.{stale, stale_rows_of}

-- what `From<bool>` gives
pub byte_one : (b : Bool) → bool_byte b ≡ one b
byte_one true = refl
byte_one false = refl

-- one place, and one value everywhere
pub total_single : (f : ℕ → ℕ) → total 1 f ≡ f 0
unfolding total
total_single f = omega arith

pub total_const : (n x : ℕ) → total n (λ k. x) ≡ n * x
unfolding total
total_const zero x = sym (zero-mul x)
total_const (suc n) x = omega (arith, total_const n x, suc-mul n x)

-- a part of a row, from its own first place on
pub part_count : (t : ℕ → Bool) (line : List ℕ) (a e : ℕ) → a ≤ e → e ≤ length line
    → count_of (length (take (e - a) (drop a line))) (λ j. t (get_or (take (e - a) (drop a line)) j 0)) ≡ count_of (e - a) (λ j. t (get_or line (a + j) 0))
part_count t line a e ordered fits =
    ap (λ (n : ℕ). count_of n (λ j. t (get_or (take (e - a) (drop a line)) j 0))) (length-take-le (e - a) (drop a line) (simp length-drop (omega arith)))
    ∙ total_same (e - a) (λ j lt. ap (λ (v : ℕ). one (t v)) (get_or-take (e - a) (drop a line) j 0 lt ∙ get_or-drop a line j 0))

-- a row's first part is counted, and then the part from a to below e
pub count_part : (t : ℕ → Bool) (line : List ℕ) (a e n m : ℕ) → a ≤ e → e ≤ length line → n ≡ count_of a (λ j. t (get_or line j 0))
    → m ≡ count_of (length (take (e - a) (drop a line))) (λ j. t (get_or (take (e - a) (drop a line)) j 0))
    → n + m ≡ count_of e (λ j. t (get_or line j 0))
count_part t line a e n m ordered fits before here =
    let whole : a + (e - a) ≡ e = omega arith in
    (λ i. before i + (here ∙ part_count t line a e ordered fits) i)
    ∙ total_more a (e - a) (λ j. one (t (get_or line j 0)))
    ∙ ap (λ (k : ℕ). count_of k (λ j. t (get_or line j 0))) whole

-- a row whose bytes are all x
pub alike_count : (t : ℕ → Bool) (line : List ℕ) (x : ℕ) → ((k : ℕ) → k < length line → get_or line k 0 ≡ x)
    → count_of (length line) (λ k. t (get_or line k 0)) ≡ length line * one (t x)
alike_count t line x alike = total_same (length line) (λ k lt. ap (λ (b : ℕ). one (t b)) (alike k lt)) ∙ total_const (length line) (one (t x))

-- ---- the pixels of a row by their blocks: f is what a block gives

-- from an even column on, each block has two
pub pairs : (f : ℕ → ℕ) (a k : ℕ) → total (2 * k) (λ c. f ((2 * a + c) / 2)) ≡ 2 * total k (λ j. f (a + j))
pairs f a zero = sym (total_none (λ c. f ((2 * a + c) / 2))) ∙ ap (λ (n : ℕ). 2 * n) (total_none (λ j. f (a + j)))
pairs f a (suc k) =
    let g : ℕ → ℕ = λ c. f ((2 * a + c) / 2) in
    let even : (2 * a + 2 * k) / 2 ≡ a + k = omega arith in
    let odd : (2 * a + (2 * k + 1)) / 2 ≡ a + k = omega arith in
    let two : 2 * suc k ≡ 2 * k + 1 + 1 = omega arith in
    let one_more : total (2 * k) g + g (2 * k) ≡ total (2 * k + 1) g = total-one (2 * k) g in
    let two-more : total (2 * k + 1) g + g (2 * k + 1) ≡ total (2 * k + 1 + 1) g = total-one (2 * k + 1) g in
    let first : g (2 * k) ≡ f (a + k) = ap f even in
    let second : g (2 * k + 1) ≡ f (a + k) = ap f odd in
    let more : total k (λ j. f (a + j)) + f (a + k) ≡ total (suc k) (λ j. f (a + j)) = total-one k (λ j. f (a + j)) ∙ ap (λ (n : ℕ). total n (λ j. f (a + j))) (add-one k) in
    ap (λ (n : ℕ). total n g) two ∙ omega (arith, pairs f a k)

-- a row in three: the odd first column, the pairs, the odd last column
pub row_count : (f : ℕ → ℕ) (left n : ℕ) → 0 < n
    → 2 * total ((left + n) / 2 - (left + 1) / 2) (λ j. f ((left + 1) / 2 + j)) + total (left % 2) (λ c. f (left / 2)) + total ((left + n) % 2) (λ c. f ((left + n) / 2))
    ≡ total n (λ c. f ((left + c) / 2))
row_count f left n pos =
    let head : ℕ = left % 2 in
    let first : ℕ = (left + 1) / 2 in
    let m : ℕ = (left + n) / 2 - (left + 1) / 2 in
    let tail : ℕ = (left + n) % 2 in
    let all : head + (2 * m + tail) ≡ n = omega arith in
    let g : ℕ → ℕ = λ c. f ((left + c) / 2) in
    let head-is : total head g ≡ total head (λ c. f (left / 2)) = total_same head (λ c lt. ap f (omega arith)) in
    let middle-is : total (2 * m) (λ c. g (head + c)) ≡ 2 * total m (λ j. f (first + j)) = total_same (2 * m) (λ c lt. ap f (omega arith)) ∙ pairs f first m in
    let tail-is : total tail (λ c. g (head + (2 * m + c))) ≡ total tail (λ c. f ((left + n) / 2)) = total_same tail (λ c lt. ap f (omega arith)) in
    let back : total (2 * m) (λ c. g (head + c)) + total tail (λ c. g (head + (2 * m + c))) ≡ total (2 * m + tail) (λ c. g (head + c)) = total_more (2 * m) tail (λ c. g (head + c)) in
    let whole : total head g + total (2 * m + tail) (λ c. g (head + c)) ≡ total (head + (2 * m + tail)) g = total_more head (2 * m + tail) g in
    omega arith ∙ whole ∙ ap (λ (k : ℕ). total k g) all

-- ---- rows: `lines` rows of one row of blocks more
pub rows_count : (f : ℕ → ℕ) (top r lines : ℕ) → ((k : ℕ) → k < lines → (top + (r + k)) / 2 ≡ (top + r) / 2)
    → total r (λ q. f ((top + q) / 2)) + lines * f ((top + r) / 2) ≡ total (r + lines) (λ q. f ((top + q) / 2))
rows_count f top r lines same =
    ap (λ (x : ℕ). total r (λ q. f ((top + q) / 2)) + x) (sym (total_const lines (f ((top + r) / 2))) ∙ total_same lines (λ k lt. ap f (sym (same k lt))))
    ∙ total_more r lines (λ q. f ((top + q) / 2))

-- a row of the map was lent: its bytes are the map's blocks
pub row_blocks : (t : ℕ → Bool) (m : List ℕ) (w i left n : ℕ) → left + n ≤ 2 * w
    → count_of n (λ c. t (get_or (take (i * w + w - i * w) (drop (i * w) m)) ((left + c) / 2) 0)) ≡ count_of n (λ c. t (sample m w i ((left + c) / 2)))
unfolding sample
row_blocks t m w i left n inside =
    total_same n (λ c lt. ap (λ (v : ℕ). one (t v)) (get_or-take (i * w + w - i * w) (drop (i * w) m) ((left + c) / 2) 0 (omega arith) ∙ get_or-drop (i * w) m ((left + c) / 2) 0))

-- no count is above rows x columns
pub stale_low : (w left top n h : ℕ) (m : List ℕ) → stale_rows_of w left top n h m ≤ h * n
stale_low w left top n h m = total_low h n _ (λ r lt. count_low n (λ c. stale (sample m w ((top + r) / 2) ((left + c) / 2))))
