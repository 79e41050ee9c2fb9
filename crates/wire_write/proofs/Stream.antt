-- Numbers as their bytes, some more of them, and one part more of a stream; and how long it is.
-- Assumes nothing.
use Prim.Native.Nat.{ℕ, ◌+◌, ◌*◌, ◌/◌, ◌-◌, ◌≤◌, ◌<◌}
use native.Mathlib.Omega.{arith}
use mathlib.Core.Path.{◌≡◌, refl, sym, ap, ◌∙◌}
use mathlib.Core.List.{List, [], ◌∷◌, ◌++◌, append_assoc, append-nil}
use borrow.Rule.Slice.PartMut.{put_mid, post_of}
use lib.ListN.{length, get_or, take, drop, length-append, length-drop}
use lib.Seq.{drop-cons, length-take-le}
use Rattle.wire_write.proofs.Front.{fronted, Fronted, fronted_more, part_next, all_written, take_part}
use Rattle.wire_fields.specs.Fields.{u16_bytes, u32_bytes}
use Rattle.wire_fields.proofs.Bytes.{u16_long, u32_long}
use Rattle.wire_read.specs.Format.{bytes_of}
use Rattle.wire_write.specs.Stream.{number_bytes, parts_from, stream_length}

pub number_bytes_long : (ns : List ℕ) → length (number_bytes ns) ≡ 2 * length ns
number_bytes_long [] = refl
number_bytes_long (n ∷ ns) =
    let a = length-append (u16_bytes n) (number_bytes ns) in
    let b = u16_long n in
    let e = number_bytes_long ns in
    omega arith

number_bytes_append : (ms ns : List ℕ) → number_bytes (ms ++ ns) ≡ number_bytes ms ++ number_bytes ns
number_bytes_append [] ns = refl
number_bytes_append (m ∷ ms) ns = ap (λ (l : List ℕ). u16_bytes m ++ l) (number_bytes_append ms ns) ∙ sym (append_assoc (u16_bytes m) (number_bytes ms) (number_bytes ns))

-- the numbers from k to k + m were written behind those before them
pub numbers_more : {was ys : List ℕ} (ns l : List ℕ) (k m b : ℕ) → b ≡ 2 * m → k + m ≤ length ns → 2 * (k + m) ≤ length l
    → Fronted (number_bytes (take k ns)) l was
    → ys ≡ number_bytes (take (k + m - k) (drop k ns))
    → Fronted (number_bytes (take (k + m) ns)) l (put_mid (2 * k) b was ys)
numbers_more ns l k m b is fits room before back =
    let more : number_bytes (take k ns) ++ number_bytes (take (k + m - k) (drop k ns)) ≡ number_bytes (take (k + m) ns) =
    sym (number_bytes_append (take k ns) (take (k + m - k) (drop k ns))) ∙ ap number_bytes (take_part ns k m) in
    fronted_more (2 * k) b before back more
    (long (take k ns) k (length-take-le k ns (omega arith)))
    (long (take (k + m - k) (drop k ns)) m (length-take-le (k + m - k) (drop k ns) (simp length-drop (omega arith)) ∙ omega arith) ∙ sym is)
    (omega (arith, long (take (k + m) ns) (k + m) (length-take-le (k + m) ns fits)))
  where
    long : (ms : List ℕ) (n : ℕ) → length ms ≡ n → length (number_bytes ms) ≡ 2 * n
    long ms n e = number_bytes_long ms ∙ ap (λ (j : ℕ). 2 * j) e

-- one number, as the numbers from i to i + 1
pub number_at : (ns : List ℕ) (i : ℕ) → i < length ns → u16_bytes (get_or ns i 0) ≡ number_bytes (take (i + 1 - i) (drop i ns))
number_at ns i h =
    let one : 1 ≡ i + 1 - i = omega arith in
    sym (append-nil (u16_bytes (get_or ns i 0))) ∙ (λ j. number_bytes (take (one j) (sym (drop-cons ns i 0 h) j)))

pub stream_long_lem : (rs ps hs : List ℕ) → length (bytes_of (parts_from rs ps hs)) ≡ stream_length (length rs) (length ps) (length hs)
stream_long_lem rs ps hs =
    let d = length-append (u32_bytes (length rs / 4)) (number_bytes rs ++ (ps ++ hs)) in
    let e = u32_long (length rs / 4) in
    let a = length-append (number_bytes rs) (ps ++ hs) in
    let b = length-append ps hs in
    let c = number_bytes_long rs in
    omega arith

-- the four parts of a stream, each lent and come back
module _ (l rs ps hs : List ℕ) (whole : length l ≡ stream_length (length rs) (length ps) (length hs)) where
  abbrev count : List ℕ
  count = u32_bytes (length rs / 4)

  abbrev first : ℕ
  first = 4 + 2 * length rs

  abbrev second : ℕ
  second = first + length ps

  abbrev end : ℕ
  end = second + length hs

  after_count : {c : List ℕ} → c ≡ count → c ++ post_of 0 4 l ≡ fronted count l
  after_count e = ap (λ (c : List ℕ). c ++ drop 4 l) e ∙ ap (λ (n : ℕ). count ++ drop n l) (sym (u32_long (length rs / 4)))

  numbers_end : length (count ++ number_bytes rs) ≡ first
  numbers_end = let n = number_bytes_long rs in let f = u32_long (length rs / 4) in let a = length-append count (number_bytes rs) in omega arith

  pairs_end : length ((count ++ number_bytes rs) ++ ps) ≡ second
  pairs_end = let n = numbers_end in let a = length-append (count ++ number_bytes rs) ps in omega arith

  all_end : length (((count ++ number_bytes rs) ++ ps) ++ hs) ≡ length l
  all_end = let n = pairs_end in let a = length-append ((count ++ number_bytes rs) ++ ps) hs in omega arith

  pub stream_written : {c ns qs gs : List ℕ} → c ≡ count → ns ≡ number_bytes rs → qs ≡ ps → gs ≡ hs
      → put_mid second (end - second) (put_mid first (second - first) (put_mid 4 (first - 4) (c ++ post_of 0 4 l) ns) qs) gs ≡ bytes_of (parts_from rs ps hs)
  stream_written {c} {ns} {qs} {gs} ec en eq eg =
      (λ i. put_mid second (end - second) (put_mid first (second - first) (put_mid 4 (first - 4) (after_count ec i) (en i)) (eq i)) (eg i))
      ∙ ap (λ (d : List ℕ). put_mid second (end - second) (put_mid first (second - first) d ps) hs) (part_next count (number_bytes rs) l 4 (first - 4) (u32_long (length rs / 4)) (let n = number_bytes_long rs in omega arith))
      ∙ ap (λ (d : List ℕ). put_mid second (end - second) d hs) (part_next (count ++ number_bytes rs) ps l first (second - first) numbers_end (omega arith))
      ∙ part_next ((count ++ number_bytes rs) ++ ps) hs l second (end - second) pairs_end (omega arith)
      ∙ all_written (((count ++ number_bytes rs) ++ ps) ++ hs) l all_end
      ∙ append_assoc (count ++ number_bytes rs) ps hs
      ∙ append_assoc count (number_bytes rs) (ps ++ hs)
