-- Each call ends in one way; a rectangle or pair is present, and each number of the copy is given, "exactly when".
-- Assumes nothing.
use Prim.Native.Nat.{ℕ, ◌+◌, ◌*◌, ◌≤◌, ◌<◌}
use native.Mathlib.Omega.{arith}
use mathlib.Core.Path.{◌≡◌, refl, sym, ◌∙◌}
use mathlib.Core.Bool.{Bool, true, false, cond, not}
use mathlib.Core.Logic.{◌↔◌}
use mathlib.Core.List.{List, [], ◌∷◌}
use lib.Dec.{ltb, eqb}
use lib.ListN.{length}
use denote.Ref.{Bor}
use borrow.Author.Tests.{ltb-true, ltb-false, lt-ltb, eqb-true, eqb-false}
use Rattle.lent.specs.declared.Answer.{Answer}
use Rattle.lent.specs.Outcome.{Outcome, OwnPart, answer_of, lent_after}
use Rattle.lent.specs.Refusal.{refusal}
use Rattle.lent.proofs.Outcome.{outcome_unique, own_part_unique}
use Rattle.wire_read.specs.Reading.{kind_of, first_size_of, streams_past, read_number_of}
use Rattle.wire_read.specs.declared.parts.Which.{Which}
use Rattle.wire_read.specs.declared.parts.Rectangle.{Rectangle}
use Rattle.wire_read.specs.declared.parts.Pair.{Pair}
use Rattle.wire_read.specs.Parts.{places_of, parts_of, rectangle_in, no_rectangle, rectangle_at_of, pair_in, no_pair, pair_at_of, numbers_of, copy_number_of, CopyRectsOutcome}
use Rattle.wire_read.proofs.PartLaws.{copy_first, copy_6, copy_0}

-- ---- one end

-- two parts of one block, at one place, with the same bytes
abbrev OnePart : Bor (List ℕ) → Bor (List ℕ) → Type 0
OnePart r q = (r.ref_ptr.0 ≡ q.ref_ptr.0) × (r.ref_ptr.1 ≡ q.ref_ptr.1) × (r.now ≡ q.now)

module _ (payload : Bor (List ℕ)) (w : Which) (r q : Bor (List ℕ)) where
  pub rects_unique : OwnPart payload r (places_of payload.now w).rects (parts_of payload.now w).rects
      → OwnPart payload q (places_of payload.now w).rects (parts_of payload.now w).rects → OnePart r q
  rects_unique x y = own_part_unique x y

  pub pairs_unique : OwnPart payload r (places_of payload.now w).pairs (parts_of payload.now w).pairs
      → OwnPart payload q (places_of payload.now w).pairs (parts_of payload.now w).pairs → OnePart r q
  pairs_unique x y = own_part_unique x y

  pub h264_unique : OwnPart payload r (places_of payload.now w).«data» (parts_of payload.now w).h264
      → OwnPart payload q (places_of payload.now w).«data» (parts_of payload.now w).h264 → OnePart r q
  h264_unique x y = own_part_unique x y

module _ (s : List ℕ) (w : Which) where
  pub rectangle_unique : (i : ℕ) (r q : Rectangle) → Outcome (rectangle_at_of s w i) [] r [] → Outcome (rectangle_at_of s w i) [] q [] → r ≡ q
  rectangle_unique i r q x y = (outcome_unique (rectangle_at_of s w) (λ k. []) i r q [] [] x y).0

  pub pair_unique : (i : ℕ) (r q : Pair) → Outcome (pair_at_of s w i) [] r [] → Outcome (pair_at_of s w i) [] q [] → r ≡ q
  pair_unique i r q x y = (outcome_unique (pair_at_of s w) (λ k. []) i r q [] [] x y).0

  pub copy_unique : (out : List ℕ) (r q : Answer) (rs qs : List (List ℕ)) → CopyRectsOutcome s w out r rs → CopyRectsOutcome s w out q qs → (r ≡ q) × (rs ≡ qs)
  copy_unique =
      outcome_unique (λ (out : List ℕ). answer_of (copy_number_of s w (length out)) (4 * (places_of s w).count))
      (λ (out : List ℕ). lent_after (copy_number_of s w (length out)) out (numbers_of s w out) ∷ [])

-- ---- present

module _ (s : List ℕ) (w : Which) (i : ℕ) where
  abbrev count : ℕ
  count = (places_of s w).count

  rectangle_test : (rectangle_at_of s w i).present ≡ ltb i count
  unfolding rectangle_at_of
  rectangle_test = go (ltb i count)
    where
      go : (b : Bool) → (cond b (rectangle_in (read_number_of s) s ((places_of s w).rects + 8 * i)) (no_rectangle (read_number_of s))).present ≡ b
      go true = refl
      go false = refl

  pair_test : (pair_at_of s w i).present ≡ ltb i count
  unfolding pair_at_of
  pair_test = go (ltb i count)
    where
      go : (b : Bool) → (cond b (pair_in (read_number_of s) s ((places_of s w).pairs + 2 * i)) (no_pair (read_number_of s))).present ≡ b
      go true = refl
      go false = refl

  pub rectangle_present_exactly : ((rectangle_at_of s w i).present ≡ true) ↔ (i < count)
  rectangle_present_exactly = (λ e. ltb-true i count (sym rectangle_test ∙ e), λ h. rectangle_test ∙ lt-ltb i count h)

  pub pair_present_exactly : ((pair_at_of s w i).present ≡ true) ↔ (i < count)
  pair_present_exactly = (λ e. ltb-true i count (sym pair_test ∙ e), λ h. pair_test ∙ lt-ltb i count h)

-- ---- the copy's numbers

no_6 : (s : List ℕ) → read_number_of s ≡ 6 → ⊥
unfolding read_number_of
no_6 s = go (ltb (length s) 4) (eqb (kind_of s) 3) (ltb (length s) (4 + first_size_of s)) (streams_past s)
  where
    go : (a b c d : Bool) → refusal ((a, 9) ∷ (b, 8) ∷ (c, 9) ∷ (d, 10) ∷ []) ≡ 6 → ⊥
    go true b c d e = omega arith
    go false true c d e = omega arith
    go false false true d e = omega arith
    go false false false true e = omega arith
    go false false false false e = omega arith

module _ (s : List ℕ) (w : Which) (n : ℕ) where
  -- what the number is: the payload's, and of an accepted one 6 or 0
  cases : (P : ℕ → Type 0) → ((read_number_of s ≡ 0 → ⊥) → P (read_number_of s)) → (read_number_of s ≡ 0 → n < 4 * (places_of s w).count → P 6)
      → (read_number_of s ≡ 0 → 4 * (places_of s w).count ≤ n → P 0) → P (copy_number_of s w n)
  unfolding copy_number_of
  cases P first six done = go (eqb (read_number_of s) 0) (ltb n (4 * (places_of s w).count)) refl refl
    where
      go : (a b : Bool) → eqb (read_number_of s) 0 ≡ a → ltb n (4 * (places_of s w).count) ≡ b → P (refusal ((not a, read_number_of s) ∷ (b, 6) ∷ []))
      go false b e f = first (eqb-false (read_number_of s) 0 e)
      go true true e f = six (eqb-true (read_number_of s) 0 e) (ltb-true n (4 * (places_of s w).count) f)
      go true false e f = done (eqb-true (read_number_of s) 0 e) (ltb-false n (4 * (places_of s w).count) f)

  pub copy_0_exactly : (copy_number_of s w n ≡ 0) ↔ ((read_number_of s ≡ 0) × (4 * (places_of s w).count ≤ n))
  copy_0_exactly = (
    cases (λ m. m ≡ 0 → (read_number_of s ≡ 0) × (4 * (places_of s w).count ≤ n)) (λ some e. absurd (some e)) (λ z h e. absurd (omega arith)) (λ z h e. (z, h)),
    λ h. copy_0 s w n h.0 h.1,
  )

  pub copy_6_exactly : (copy_number_of s w n ≡ 6) ↔ ((read_number_of s ≡ 0) × (n < 4 * (places_of s w).count))
  copy_6_exactly = (
    cases (λ m. m ≡ 6 → (read_number_of s ≡ 0) × (n < 4 * (places_of s w).count)) (λ some e. absurd (no_6 s e)) (λ z h e. (z, h)) (λ z h e. absurd (omega arith)),
    λ h. copy_6 s w n h.0 h.1,
  )

  -- 8, 9 and 10 are the payload's
  pub copy_first_exactly : (m : ℕ) → (m ≡ 0 → ⊥) → (m ≡ 6 → ⊥) → (copy_number_of s w n ≡ m) ↔ (read_number_of s ≡ m)
  copy_first_exactly m not-0 not-6 = (
    cases (λ k. k ≡ m → read_number_of s ≡ m) (λ some e. e) (λ z h e. absurd (not-6 (sym e))) (λ z h e. absurd (not-0 (sym e))),
    λ e. sym (copy_first s w n refl (λ z. not-0 (sym e ∙ z))) ∙ e,
  )
