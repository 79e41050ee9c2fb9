-- Numbers as their bytes, and back.
-- Assumes nothing.
use Prim.Native.Nat.{ℕ, ◌+◌, ◌*◌, ◌/◌, ◌%◌, ◌^◌, ◌<◌}
use native.Mathlib.Omega.{arith}
use mathlib.Core.Path.{◌≡◌, refl, ap, ◌∙◌}
use mathlib.Core.List.{[], ◌∷◌}
use lib.ListN.{length}
use Rattle.wire_fields.specs.Fields.{u16_at, u32_at, u16_bytes, u32_bytes}

pub u16_long : (n : ℕ) → length (u16_bytes n) ≡ 2
unfolding u16_bytes
u16_long n = refl

pub u32_long : (n : ℕ) → length (u32_bytes n) ≡ 4
unfolding u32_bytes
u32_long n = refl

-- the byte above a quotient
step : (n : ℕ) → n ≡ n % 256 + n / 256 * 256
step n = omega arith

-- a number of 32 bits is what its bytes say, and four bytes are those of their number
pub u32_back : (n : ℕ) → n < 2 ^ 32 → u32_at (u32_bytes n) 0 ≡ n
unfolding u32_at u32_bytes
u32_back n h =
    let two : n / 65536 ≡ n / 256 / 256 = omega arith in
    let three : n / 16777216 ≡ n / 65536 / 256 = omega arith in
    let a = step n in
    let b = step (n / 256) in
    let c = step (n / 65536) in
    let d : n / 16777216 % 256 ≡ n / 16777216 = omega arith in
    omega arith

pub u32_bytes_lem : (a b c d : ℕ) → a < 256 → b < 256 → c < 256 → d < 256 → u32_bytes (u32_at (a ∷ b ∷ c ∷ d ∷ []) 0) ≡ a ∷ b ∷ c ∷ d ∷ []
unfolding u32_at u32_bytes
u32_bytes_lem a b c d ha hb hc hd =
    let n = a + b * 256 + c * 65536 + d * 16777216 in
    let first : n % 256 ≡ a = omega arith in
    let above : n / 256 ≡ b + c * 256 + d * 65536 = omega arith in
    let further : n / 65536 ≡ c + d * 256 = omega arith in
    let last : n / 16777216 ≡ d = omega arith in
    let second : (b + c * 256 + d * 65536) % 256 ≡ b = omega arith in
    let third : (c + d * 256) % 256 ≡ c = omega arith in
    let fourth : d % 256 ≡ d = omega arith in
    λ i. first i
    ∷ (ap (λ (k : ℕ). k % 256) above ∙ second) i
    ∷ (ap (λ (k : ℕ). k % 256) further ∙ third) i
    ∷ (ap (λ (k : ℕ). k % 256) last ∙ fourth) i
    ∷ []

pub u16_back : (n : ℕ) → n < 2 ^ 16 → u16_at (u16_bytes n) 0 ≡ n
unfolding u16_at u16_bytes
u16_back n h = omega arith

pub u16_bytes_lem : (a b : ℕ) → a < 256 → b < 256 → u16_bytes (u16_at (a ∷ b ∷ []) 0) ≡ a ∷ b ∷ []
unfolding u16_at u16_bytes
u16_bytes_lem a b ha hb =
    let first : (a + b * 256) % 256 ≡ a = omega arith in
    let above : (a + b * 256) / 256 ≡ b = omega arith in
    let second : b % 256 ≡ b = omega arith in
    λ i. first i ∷ (ap (λ (k : ℕ). k % 256) above ∙ second) i ∷ []
