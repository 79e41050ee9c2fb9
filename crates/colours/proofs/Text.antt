-- Text that is put piece by piece: `put_one` is one byte, and `put_more` joins two pieces; `prefix_len_of_le` counts what is put. Then a byte
-- in decimal, and the invariant of the loop over triples: what is put and the text of the rest are the whole text. Last, the input
-- may be cut after a whole number of triples (`text_append`).
-- Assumes nothing.
use mathlib.Core.List.{List, [], ◌∷◌, ◌++◌, append_assoc, append-nil}
use mathlib.Core.Path.{◌≡◌, refl, sym, ap, ◌∙◌}
use Prim.Native.Nat.{ℕ, zero, suc, ◌+◌, ◌*◌, ◌/◌, ◌%◌, ◌≤◌, ◌<◌}
use native.Mathlib.Numerals.{add-one}
use native.Mathlib.Omega.{arith}
use borrow.Author.Tests.{lt-ltb, le-ltb}
use lib.ListN.{length, get_or, set, take, drop, length-append, length-set, drop_of_length-le}
use lib.Seq.{take-suc-set, drop-cons, length-take-le}
use Rattle.std.specs.Counts.{IsPrefixLen}
use Rattle.colours.specs.Digits.{hex_digit_ascii}
use Rattle.colours.specs.Text.{decimal_of, line_of, short_of, text_of, Put}

pub put_one : (xs : List ℕ) (i b : ℕ) → i < length xs → Put xs (set xs i b) i (i + 1) (b ∷ [])
put_one xs i b h = record { front = rw add-one (take-suc-set xs i b h); next = refl; size = simp length-set }

pub put_more : {xs ys zs : List ℕ} {i j k : ℕ} {t u : List ℕ} → Put xs ys i j t → Put ys zs j k u → Put xs zs i k (t ++ u)
put_more {xs} {ys} {zs} {i} {j} {k} {t} {u} p q =
    record {
      front = q.front ∙ rw p.front (append_assoc (take i xs) t u);
      next = omega (arith, length-append t u, p.next, q.next);
      size = q.size ∙ p.size;
    }

pub prefix_len_of_le : (n : ℕ) (xs : List ℕ) → n ≤ length xs → IsPrefixLen n xs
prefix_len_of_le n xs h = (h, sym (length-take-le n xs h))

digit : (d k : ℕ) → d < 10 → d ≡ k → hex_digit_ascii d ≡ 48 + k
digit d k h e = rw (lt-ltb d 10 h) (omega arith)

pub one_digit : (n : ℕ) → n < 10 → decimal_of n ≡ (48 + n) ∷ []
unfolding decimal_of
one_digit n h = rw (lt-ltb n 10 h) (cc (digit (n % 10) n (omega arith) (omega arith)))

pub two_digits : (n : ℕ) → 10 ≤ n → n < 100 → decimal_of n ≡ (48 + n / 10) ∷ (48 + n % 10) ∷ []
unfolding decimal_of
two_digits n l h =
    rw (le-ltb n 10 l, lt-ltb n 100 h)
    (cc (digit (n / 10 % 10) (n / 10) (omega arith) (omega arith), digit (n % 10) (n % 10) (omega arith) refl))

pub three_digits : (n : ℕ) → 100 ≤ n → n < 256 → decimal_of n ≡ (48 + n / 100) ∷ (48 + n / 10 % 10) ∷ (48 + n % 10) ∷ []
unfolding decimal_of
three_digits n l h =
    rw (le-ltb n 10 (omega arith), le-ltb n 100 l)
    (cc (
      digit (n / 10 / 10 % 10) (n / 100) (omega arith) (omega arith),
      digit (n / 10 % 10) (n / 10 % 10) (omega arith) refl,
      digit (n % 10) (n % 10) (omega arith) refl,
    ))

-- the loop's invariant: i bytes of rgb are read, their text stands in front of `at`
pub record SoFar (rgb out : List ℕ) (at i : ℕ) : Type 0 where
  pub within : i ≤ length rgb
  pub room : at ≤ 8 * i
  pub text : take at out ++ text_of (drop i rgb) ≡ text_of rgb

module _ (rgb : List ℕ) where
  left : (i j : ℕ) → j ≡ i + 1 → i < length rgb → drop i rgb ≡ get_or rgb i 0 ∷ drop j rgb
  left i j e h = rw (e, add-one) (drop-cons rgb i 0 h)

  none : (i : ℕ) → i ≡ length rgb → drop i rgb ≡ []
  none i e = let h : length rgb ≤ i = omega arith in drop_of_length-le rgb h

  left_over : (n i : ℕ) → i + n ≡ length rgb → 0 < n → n < 3 → text_of (drop i rgb) ≡ short_of n
  left_over zero i e l h = absurd (omega arith)
  left_over (suc zero) i e l h = rw (left i (i + 1) refl (omega arith), none (i + 1) e)
  left_over (suc (suc zero)) i e l h = rw (left i (i + 1) refl (omega arith), left (i + 1) (i + 2) (omega arith) (omega arith), none (i + 2) e)
  left_over (suc (suc (suc n))) i e l h = absurd (omega arith)

module _ {rgb xs ys : List ℕ} {at end i : ℕ} (s : SoFar rgb xs at i) where
  pub text_line : i + 3 ≤ length rgb → Put xs ys at end (line_of (get_or rgb i 0) (get_or rgb (i + 1) 0) (get_or rgb (i + 2) 0)) → end ≤ at + 24 → SoFar rgb ys end (i + 3)
  text_line h p e =
      let a = left rgb i (i + 1) refl (omega arith) in
      let b = left rgb (i + 1) (i + 2) (omega arith) (omega arith) in
      let c = left rgb (i + 2) (i + 3) (omega arith) (omega arith) in
      record {
        within = h;
        room = omega (arith, s.room);
        text = rw (p.front, append_assoc) (rw (a, b, c) at s.text);
      }

  -- n is what is left over
  pub text_short : (n : ℕ) → i + n ≡ length rgb → 0 < n → n < 3 → Put xs ys at end (short_of n) → take end ys ≡ text_of rgb
  text_short n e l h p = p.front ∙ rw (left_over rgb n i e l h) at s.text

pub text_end : {rgb xs : List ℕ} {at i : ℕ} → SoFar rgb xs at i → i ≡ length rgb → take at xs ≡ text_of rgb
text_end {rgb} {xs} {at} {i} s h = rw (none rgb i h, append-nil) at s.text

-- the text of two pieces one after the other is the first's text and then the second's, where the first is a whole number of triples
pub text_append : (xs ys : List ℕ) → length xs % 3 ≡ 0 → text_of (xs ++ ys) ≡ text_of xs ++ text_of ys
text_append [] ys h = refl
text_append (r ∷ []) ys h = absurd (omega arith)
text_append (r ∷ g ∷ []) ys h = absurd (omega arith)
text_append (r ∷ g ∷ b ∷ rest) ys h =
    ap (λ (t : List ℕ). line_of r g b ++ t) (text_append rest ys (omega arith)) ∙ sym (append_assoc (line_of r g b) (text_of rest) (text_of ys))
