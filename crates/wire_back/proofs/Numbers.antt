-- Bytes as numbers, and numbers as bytes; and the numbers of a stream's rectangles are those that the copy answers.
-- Assumes nothing.
use Prim.Native.Nat.{ℕ, zero, suc, ◌+◌, ◌*◌, ◌-◌, ◌^◌, ◌≤◌, ◌<◌}
use native.Mathlib.Omega.{arith}
use mathlib.Core.Path.{◌≡◌, refl, sym, ap, ◌∙◌}
use mathlib.Core.Bool.{Bool, true, false, cond}
use mathlib.Core.List.{List, [], ◌∷◌, ◌++◌}
use lib.Dec.{ltb}
use lib.ListN.{length, get_or, take, drop, length-append, length-drop, get_or-append}
use lib.Seq.{length-take-le, get_or-append-add, get_or-take, get_or-drop}
use borrow.Author.Tests.{ltb-true, ltb-false}
use Rattle.lent.proofs.Paint.{paint_is}
use Rattle.wire_fields.specs.Fields.{u16_at, u32_at, u16_bytes, u32_bytes}
use Rattle.wire_fields.proofs.Bytes.{u16_back, u16_bytes_lem, u32_bytes_lem}
use Rattle.wire_read.specs.declared.Stream.{Stream}
use Rattle.wire_read.specs.declared.parts.Which.{Which}
use Rattle.wire_read.specs.Parts.{places_of, parts_of, numbers_of}
use Rattle.wire_read.proofs.PartLaws.{inside}
use Rattle.wire_write.specs.Stream.{number_bytes}
use Rattle.wire_back.specs.Back.{numbers_in, AllBelow}

-- ---- bytes

-- a list is of bytes where each place of it holds one
pub bytes_at : (s : List ℕ) → ((i : ℕ) → get_or s i 0 < 256) → AllBelow 256 s
bytes_at [] h = tt
bytes_at (b ∷ s) h = (h 0, bytes_at s (λ i. h (suc i)))

pub bytes_take : (n : ℕ) (s : List ℕ) → AllBelow 256 s → AllBelow 256 (take n s)
bytes_take zero s h = tt
bytes_take (suc n) [] h = tt
bytes_take (suc n) (b ∷ s) h = (h.0, bytes_take n s h.1)

bytes_drop : (n : ℕ) (s : List ℕ) → AllBelow 256 s → AllBelow 256 (drop n s)
bytes_drop zero s h = h
bytes_drop (suc n) [] h = tt
bytes_drop (suc n) (b ∷ s) h = bytes_drop n s h.1

pub bytes_part : (n at : ℕ) (s : List ℕ) → AllBelow 256 s → AllBelow 256 (take n (drop at s))
bytes_part n at s h = bytes_take n (drop at s) (bytes_drop at s h)

-- four bytes are those of their number, which has 32 bits
pub four_bytes : (l : List ℕ) → length l ≡ 4 → AllBelow 256 l → (u32_bytes (u32_at l 0) ≡ l) × (u32_at l 0 < 2 ^ 32)
unfolding u32_at
four_bytes [] e h = absurd (omega arith)
four_bytes (a ∷ []) e h = absurd (omega arith)
four_bytes (a ∷ b ∷ []) e h = absurd (omega arith)
four_bytes (a ∷ b ∷ c ∷ []) e h = absurd (omega arith)
four_bytes (a ∷ b ∷ c ∷ d ∷ []) e h = (u32_bytes_lem a b c d h.0 h.1.0 h.1.1.0 h.1.1.1.0, omega arith)
four_bytes (a ∷ b ∷ c ∷ d ∷ x ∷ l) e h = absurd (omega arith)

-- ---- numbers of two bytes

pub numbers_long : (m : ℕ) (bs : List ℕ) → length bs ≡ 2 * m → length (numbers_in bs) ≡ m
numbers_long zero [] e = refl
numbers_long zero (a ∷ bs) e = absurd (omega arith)
numbers_long (suc m) [] e = absurd (omega arith)
numbers_long (suc m) (a ∷ []) e = absurd (omega arith)
numbers_long (suc m) (a ∷ b ∷ bs) e = ap suc (numbers_long m bs (omega arith))

pub numbers_bytes : (m : ℕ) (bs : List ℕ) → length bs ≡ 2 * m → AllBelow 256 bs → number_bytes (numbers_in bs) ≡ bs
numbers_bytes zero [] e h = refl
numbers_bytes zero (a ∷ bs) e h = absurd (omega arith)
numbers_bytes (suc m) [] e h = absurd (omega arith)
numbers_bytes (suc m) (a ∷ []) e h = absurd (omega arith)
numbers_bytes (suc m) (a ∷ b ∷ bs) e h = λ i. u16_bytes_lem a b h.0 h.1.0 i ++ numbers_bytes m bs (omega arith) h.1.1 i

-- and the other way
pub numbers_again : (ns : List ℕ) → AllBelow (2 ^ 16) ns → numbers_in (number_bytes ns) ≡ ns
unfolding u16_bytes
numbers_again [] h = refl
numbers_again (n ∷ ns) h = λ i. u16_back n h.0 i ∷ numbers_again ns h.1 i

-- ---- the numbers are those that the copy answers

number_at : (bs : List ℕ) (k : ℕ) → 2 * k + 1 < length bs → get_or (numbers_in bs) k 0 ≡ u16_at bs (2 * k)
unfolding u16_at
number_at [] k h = absurd (omega arith)
number_at (a ∷ []) k h = absurd (omega arith)
number_at (a ∷ b ∷ bs) zero h = refl
number_at (a ∷ b ∷ bs) (suc k) h =
    let two : suc (suc (2 * k)) ≡ 2 * suc k = omega arith in
    let three : suc (suc (2 * k + 1)) ≡ 2 * suc k + 1 = omega arith in
    number_at bs k (omega arith) ∙ (λ i. get_or (a ∷ b ∷ bs) (two i) 0 + get_or (a ∷ b ∷ bs) (three i) 0 * 256)

u16_part : (n at : ℕ) (s : List ℕ) (i : ℕ) → i + 1 < n → u16_at (take n (drop at s)) i ≡ u16_at s (at + i)
unfolding u16_at
u16_part n at s i h =
    let next : at + (i + 1) ≡ at + i + 1 = omega arith in
    λ j. byte i (omega arith) j + (byte (i + 1) h ∙ ap (λ (k : ℕ). get_or s k 0) next) j * 256
  where
    byte : (k : ℕ) → k < n → get_or (take n (drop at s)) k 0 ≡ get_or s (at + k) 0
    byte k h = get_or-take n (drop at s) k 0 h ∙ get_or-drop at s k 0

module _ (s : List ℕ) (w : Which) where
  -- eight bytes for each rectangle
  rects_long : length (parts_of s w).rects ≡ 8 * (places_of s w).count
  rects_long = length-take-le (8 * (places_of s w).count) (drop (places_of s w).rects s) (let d = length-drop (places_of s w).rects s in omega (arith, inside s w))

  -- two bytes for each pair
  pub pairs_long : length (parts_of s w).pairs ≡ 2 * (places_of s w).count
  pairs_long = length-take-le (2 * (places_of s w).count) (drop (places_of s w).pairs s) (let d = length-drop (places_of s w).pairs s in omega (arith, inside s w))

  -- the H.264 bytes are as many as was answered
  pub h264_long : length (parts_of s w).h264 ≡ (places_of s w).length
  h264_long = length-take-le (places_of s w).length (drop (places_of s w).«data» s) (let d = length-drop (places_of s w).«data» s in omega (arith, inside s w))

  -- four numbers for each rectangle
  pub rects_many : length (numbers_in (parts_of s w).rects) ≡ 4 * (places_of s w).count
  rects_many = numbers_long (4 * (places_of s w).count) (parts_of s w).rects (omega (arith, rects_long))

pub copied : (s : List ℕ) (w : Which) (out : List ℕ) → 4 * (places_of s w).count ≤ length out
    → numbers_of s w out ≡ numbers_in (parts_of s w).rects ++ drop (4 * (places_of s w).count) out
unfolding numbers_of
copied s w out room =
    sym (paint_is (λ k. ltb k n) (λ k. u16_at s (x.rects + 2 * k)) out _ (let l = length-append ns (drop n out) in let d = length-drop n out in let m = many in omega arith) (λ k h. go (ltb k n) k h refl))
  where
    x : Stream
    x = places_of s w

    n : ℕ
    n = 4 * x.count

    bs : List ℕ
    bs = (parts_of s w).rects

    ns : List ℕ
    ns = numbers_in bs

    long : length bs ≡ 8 * x.count
    long = rects_long s w

    many : length ns ≡ n
    many = rects_many s w

    go : (b : Bool) (k : ℕ) → k < length out → ltb k n ≡ b → get_or (ns ++ drop n out) k 0 ≡ cond b (u16_at s (x.rects + 2 * k)) (get_or out k 0)
    go true k h e =
        let below = ltb-true k n e in
        get_or-append ns (drop n out) 0 k (omega (arith, many)) ∙ number_at bs k (omega (arith, long)) ∙ u16_part (8 * x.count) x.rects s (2 * k) (omega arith)
    go false k h e =
        let above = ltb-false k n e in
        let there : k ≡ length ns + (k - n) = omega (arith, many) in
        let back : n + (k - n) ≡ k = omega arith in
        ap (λ (j : ℕ). get_or (ns ++ drop n out) j 0) there ∙ get_or-append-add ns (drop n out) (k - n) 0 ∙ get_or-drop n out (k - n) 0 ∙ ap (λ (j : ℕ). get_or out j 0) back
