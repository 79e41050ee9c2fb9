-- Shifts and masks mean the arithmetic of specs/Fields.antt, and what is put back is what was taken out.
-- Assumes nothing.
use Prim.Native.Nat.{ℕ, zero, suc, ◌+◌, ◌*◌, ◌/◌, ◌%◌, ◌^◌, ◌≤◌, ◌<◌}
use native.Mathlib.Nat.{mod-lt}
use native.Mathlib.Omega.{arith}
use mathlib.Core.Path.{◌≡◌, refl, sym, ap, ◌∙◌}
use mathlib.Core.Bool.{Bool, true, false}
use mathlib.Core.List.{List, ◌++◌}
use lib.Dec.{eqb}
use lib.ListN.{length, get_or, get_or-append}
use lib.Seq.{get_or-append-add}
use lib.Bits.{bit_and, bit_or, and_mask, or_shifted}
use lib.Pow.{pow_pos}
use Rattle.wire_fields.specs.declared.Quantiser.{Quantiser}
use Rattle.wire_fields.specs.Fields.{u32_at, size_in, kind_in, info_of, bit_of, quantiser_in, quantiser_byte_of}

-- ---- the code

pub info_is : (kind size : ℕ) → bit_or (bit_and kind 3 * 1073741824 % 4294967296) (bit_and size 1073741823) ≡ info_of kind size
info_is kind size =
    let fits : kind % 4 * 1073741824 % 4294967296 ≡ kind % 4 * 1073741824 = omega arith in
    (λ i. bit_or (and_mask kind 2 i * 1073741824 % 4294967296) (and_mask size 30 i))
    ∙ ap (λ (x : ℕ). bit_or x (size % 2 ^ 30)) fits
    ∙ or_shifted (kind % 4) 30 (size % 2 ^ 30) (mod-lt size (pow_pos 30))

pub bit_small : (flag : Bool) → bit_of flag < 2
bit_small true = omega arith
bit_small false = omega arith

pub byte_is : (p r v : ℕ) → p < 2 → r < 2 → bit_or (bit_or (p * 128 % 256) (r * 64 % 256)) (bit_and v 63) ≡ v % 64 + r * 64 + p * 128
byte_is p r v hp hr =
    let fits-p : p * 128 % 256 ≡ p * 128 = omega arith in
    let fits-r : r * 64 % 256 ≡ r * 64 = omega arith in
    let together : p * 128 + r * 64 ≡ (p * 2 + r) * 64 = omega arith in
    let sum : (p * 2 + r) * 64 + v % 64 ≡ v % 64 + r * 64 + p * 128 = omega arith in
    (λ i. bit_or (bit_or (fits-p i) (fits-r i)) (and_mask v 6 i))
    ∙ ap (λ (x : ℕ). bit_or x (v % 64)) (or_shifted p 7 (r * 64) (omega arith) ∙ together)
    ∙ or_shifted (p * 2 + r) 6 (v % 64) (mod-lt v (pow_pos 6))
    ∙ sum

-- ---- out and back

-- a number of 32 bits is its kind and its size
pub info_parts : (info : ℕ) → info < 2 ^ 32 → info_of (kind_in info) (size_in info) ≡ info
info_parts info h = omega arith

pub kind_back : (kind size : ℕ) → kind < 4 → kind_in (info_of kind size) ≡ kind
kind_back kind size h = omega arith

pub size_back : (kind size : ℕ) → size < 2 ^ 30 → size_in (info_of kind size) ≡ size
size_back kind size h = omega arith

-- a flag is its bit, and a bit its flag
flag_back : (flag : Bool) → eqb (bit_of flag) 1 ≡ flag
flag_back true = refl
flag_back false = refl

bit_back : (n : ℕ) → n < 2 → bit_of (eqb n 1) ≡ n
bit_back zero h = refl
bit_back (suc zero) h = refl
bit_back (suc (suc n)) h = absurd (omega arith)

-- a byte is its value and its flags, and they are what was put into it
pub byte_parts : (b : ℕ) → b < 256 → quantiser_byte_of (quantiser_in b) ≡ b
byte_parts b h =
    let r = bit_back (b / 64 % 2) (omega arith) in
    let p = bit_back (b / 128) (omega arith) in
    (λ i. b % 64 % 64 + r i * 64 + p i * 128) ∙ omega arith

pub quantiser_back : (q : Quantiser) → q.value < 64 → quantiser_in (quantiser_byte_of q) ≡ q
quantiser_back q h =
    let r = bit_small q.reserved in
    let p = bit_small q.progressive in
    let value-is : quantiser_byte_of q % 64 ≡ q.value = omega arith in
    let flags-are : quantiser_byte_of q / 64 ≡ bit_of q.reserved + bit_of q.progressive * 2 = omega arith in
    let reserved-is : quantiser_byte_of q / 64 % 2 ≡ bit_of q.reserved = ap (λ (n : ℕ). n % 2) flags-are ∙ omega arith in
    let progressive-is : quantiser_byte_of q / 128 ≡ bit_of q.progressive = omega arith in
    λ i. record {
      value = value-is i;
      reserved = (ap (λ (n : ℕ). eqb n 1) reserved-is ∙ flag_back q.reserved) i;
      progressive = (ap (λ (n : ℕ). eqb n 1) progressive-is ∙ flag_back q.progressive) i;
    }

-- ---- numbers in parts

module _ (xs ys : List ℕ) where
  before : (i : ℕ) → i < length xs → get_or (xs ++ ys) i 0 ≡ get_or xs i 0
  before i h = get_or-append xs ys 0 i h

  behind : (i k : ℕ) → length xs + i ≡ k → get_or (xs ++ ys) k 0 ≡ get_or ys i 0
  behind i k e = ap (λ (j : ℕ). get_or (xs ++ ys) j 0) (sym e) ∙ get_or-append-add xs ys i 0

  -- in front of other bytes, and behind them
  pub u32_front : 4 ≤ length xs → u32_at (xs ++ ys) 0 ≡ u32_at xs 0
  unfolding u32_at
  u32_front h =
      (λ i. before 0 (omega arith) i + before 1 (omega arith) i * 256 + before 2 (omega arith) i * 65536 + before 3 (omega arith) i * 16777216)

  pub u32_behind : (n : ℕ) → length xs ≡ n → u32_at (xs ++ ys) n ≡ u32_at ys 0
  unfolding u32_at
  u32_behind n e =
      (λ i. behind 0 n (omega arith) i + behind 1 (n + 1) (omega arith) i * 256 + behind 2 (n + 2) (omega arith) i * 65536 + behind 3 (n + 3) (omega arith) i * 16777216)
