-- The laws of the length-prefixed test: it is the rule's sentence, it has one answer, and which first units are read as Annex B.
-- Assumes nothing.
use Prim.Native.Nat.{ℕ, ◌≤◌, ◌<◌}
use native.Mathlib.Omega.{arith}
use mathlib.Core.Path.{◌≡◌, sym, ap, ◌∙◌}
use mathlib.Core.Bool.{Bool, true, false, not, ◌&&◌, true≢false}
use mathlib.Core.List.{List, [], ◌∷◌}
use mathlib.Core.Logic.{◌↔◌}
use lib.Dec.{ltb, eqb}
use lib.ListN.{length, get_or}
use borrow.Author.Tests.{lt-ltb, ltb-true, eq-eqb, not-true}
use Rattle.lent.proofs.Bools.{both, both_left, both_right, never_true}
use Rattle.annex_b.specs.Units.{unit_length_of}
use Rattle.annex_b.specs.Format.{start_code, starts_with_of, Made, is_avc_format_of}
use Rattle.annex_b.proofs.Made.{made_exactly}

module _ (s : List ℕ) where
  -- THE SENTENCE: "not empty, not starting 00 00 01 or 00 00 00 01, and it is wholly made of units"
  pub is_avc_format_exactly : (is_avc_format_of s ≡ true) ↔ ((0 < length s) × (starts_with_of (0 ∷ 0 ∷ 1 ∷ []) s ≡ false) × (starts_with_of start_code s ≡ false) × Made s)
  unfolding is_avc_format_of
  is_avc_format_exactly =
      let some : Bool = ltb 0 (length s) in
      let short : Bool = starts_with_of (0 ∷ 0 ∷ 1 ∷ []) s in
      let long : Bool = starts_with_of start_code s in (
        λ e.
            let three = both_left (some && not short && not long) _ e in
            let two = both_left (some && not short) _ three in (
              ltb-true 0 (length s) (both_left some _ two),
              not-true short (both_right some _ two),
              not-true long (both_right (some && not short) _ three),
              (made_exactly s).0 (both_right (some && not short && not long) _ e),
            ),
        λ h.
            both (some && not short && not long) _
            (both (some && not short) _ (both some _ (lt-ltb 0 (length s) h.0) (ap not h.1)) (ap not h.2))
            ((made_exactly s).1 h.3),
      )

  pub is_avc_format_unique : (r q : Bool) → r ≡ is_avc_format_of s → q ≡ is_avc_format_of s → r ≡ q
  is_avc_format_unique r q x y = x ∙ sym y

  -- what starts with a start code is read as Annex B
  short_code : starts_with_of (0 ∷ 0 ∷ 1 ∷ []) s ≡ true → is_avc_format_of s ≡ false
  short_code h = never_true (is_avc_format_of s) (λ e. true≢false (sym h ∙ (is_avc_format_exactly.0 e).1))

  long_code : starts_with_of start_code s ≡ true → is_avc_format_of s ≡ false
  long_code h = never_true (is_avc_format_of s) (λ e. true≢false (sym h ∙ (is_avc_format_exactly.0 e).2))

three : (x y z : ℕ) → x ≡ 0 → y ≡ 0 → z ≡ 1 → (eqb x 0 && (eqb y 0 && (eqb z 1 && true))) ≡ true
three x y z p q r = simp (eq-eqb x 0 p, eq-eqb y 0 q, eq-eqb z 1 r)

starts_256 : (s : List ℕ) → get_or s 3 0 < 256 → 256 ≤ unit_length_of s 0 → unit_length_of s 0 ≤ 511 → starts_with_of (0 ∷ 0 ∷ 1 ∷ []) s ≡ true
unfolding unit_length_of
starts_256 [] b h k = absurd (omega arith)
starts_256 (x ∷ []) b h k = absurd (omega arith)
starts_256 (x ∷ y ∷ []) b h k = absurd (omega arith)
starts_256 (x ∷ y ∷ z ∷ s) b h k = three x y z (omega arith) (omega arith) (omega arith)

starts_1 : (s : List ℕ) → unit_length_of s 0 ≡ 1 → starts_with_of start_code s ≡ true
unfolding unit_length_of
starts_1 [] h = absurd (omega arith)
starts_1 (x ∷ []) h = absurd (omega arith)
starts_1 (x ∷ y ∷ []) h = absurd (omega arith)
starts_1 (x ∷ y ∷ z ∷ []) h = absurd (omega arith)
starts_1 (x ∷ y ∷ z ∷ w ∷ s) h = let e : x ≡ 0 = omega arith in simp (eq-eqb x 0 e) (three y z w (omega arith) (omega arith) (omega arith))

-- "A first unit of 256 to 511 bytes starts 00 00 01 and is read as Annex B"
pub first_unit_256_to_511 : (s : List ℕ) → ((k : ℕ) → get_or s k 0 < 256) → 256 ≤ unit_length_of s 0 → unit_length_of s 0 ≤ 511
    → (starts_with_of (0 ∷ 0 ∷ 1 ∷ []) s ≡ true) × (is_avc_format_of s ≡ false)
first_unit_256_to_511 s bytes h k = let e = starts_256 s (bytes 3) h k in (e, short_code s e)

-- and so does one of a single byte: it starts 00 00 00 01
pub first_unit_1 : (s : List ℕ) → unit_length_of s 0 ≡ 1 → (starts_with_of start_code s ≡ true) × (is_avc_format_of s ≡ false)
first_unit_1 s h = let e = starts_1 s h in (e, long_code s e)
