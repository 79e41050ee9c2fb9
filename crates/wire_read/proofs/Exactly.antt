-- The numbers of `read`, "exactly when", in plain inequalities; and where the parts stand that it answers.
-- Assumes nothing.
use Prim.Native.Nat.{ℕ, ◌+◌, ◌*◌, ◌≤◌, ◌<◌}
use native.Mathlib.Nat.{le_refl}
use native.Mathlib.Omega.{arith}
use mathlib.Core.Path.{◌≡◌, refl, sym, ◌∙◌}
use mathlib.Core.Bool.{Bool, true, false, cond, ◌&&◌}
use mathlib.Core.Logic.Iff
use mathlib.Core.Logic.{◌↔◌, ◌⊎◌, inl, inr, ⊎_elim}
use mathlib.Core.List.{List, [], ◌∷◌, ◌++◌}
use lib.Dec.{ltb, eqb}
use lib.ListN.{length}
use borrow.Author.Tests.{ltb-true, ltb-false, lt-ltb, le-ltb, eq-eqb, ne_eqb, eqb-true, eqb-false}
use Rattle.lent.specs.Refusal.{refusal}
use Rattle.lent.proofs.Exactly.{and_exactly, or_exactly, nor, nor_exactly, nand_exactly}
use Rattle.lent.proofs.Outcome.{outcome_unique}
use Rattle.lent.specs.Outcome.{Outcome}
use Rattle.lent.proofs.Refusal.{refusal_exactly, refusal_none}
use Rattle.wire_fields.specs.Fields.{u32_at}
use Rattle.wire_read.specs.declared.Avc444.{Avc444}
use Rattle.wire_read.specs.Reading.{kind_of, first_size_of, carries_luma, carries_chroma, luma_end, chroma_start, stream_in, no_stream, past_end, head_tests, streams_past, read_number_of, refused_with, carried_of, read_of, PartsInside}
use Rattle.wire_read.proofs.Reading.{Good, past_end_is, read_accepted, follows_in}

-- the one way in which the call ends
pub read_unique : (s : List ℕ) (q r : Avc444) → Outcome (read_of s) [] q [] → Outcome (read_of s) [] r [] → q ≡ r
read_unique s q r x y = (outcome_unique read_of (λ i. []) s q r [] [] x y).0

-- its number is the answer's
pub answer_number : (s : List ℕ) → (read_of s).number ≡ read_number_of s
unfolding read_of
answer_number s = go (eqb (read_number_of s) 0) refl
  where
    go : (b : Bool) → eqb (read_number_of s) 0 ≡ b → (cond b (carried_of s) (refused_with (read_number_of s))).number ≡ read_number_of s
    go true e = sym (eqb-true (read_number_of s) 0 e)
    go false e = refl

module _ (s : List ℕ) where
  -- a stream that is carried and whose count, rectangles or pairs run past its end
  pub past_exactly : (streams_past s ≡ true)
      ↔ (((carries_luma (kind_of s) ≡ true) × (luma_end s < 4 + 4 + 10 * u32_at s 4))
      ⊎ ((carries_chroma (kind_of s) ≡ true) × (length s < chroma_start s + 4 + 10 * u32_at s (chroma_start s))))
  past_exactly = or_exactly _ _ (one (carries_luma (kind_of s)) 4 (luma_end s)) (one (carries_chroma (kind_of s)) (chroma_start s) (length s))
    where
      one : (is : Bool) (a e : ℕ) → ((is && past_end s a e) ≡ true) ↔ ((is ≡ true) × (e < a + 4 + 10 * u32_at s a))
      one is a e =
          and_exactly is (past_end s a e) (λ h. h, λ h. h)
          (λ h. ltb-true e _ (sym (past_end_is s a e) ∙ h), λ h. past_end_is s a e ∙ lt-ltb e _ h)

  -- no stream that is carried runs past its end
  pub inside_exactly : (streams_past s ≡ false)
      ↔ ((carries_luma (kind_of s) ≡ true → 4 + 4 + 10 * u32_at s 4 ≤ luma_end s) × (carries_chroma (kind_of s) ≡ true → chroma_start s + 4 + 10 * u32_at s (chroma_start s) ≤ length s))
  inside_exactly = nor_exactly _ _ (one (carries_luma (kind_of s)) 4 (luma_end s)) (one (carries_chroma (kind_of s)) (chroma_start s) (length s))
    where
      one : (is : Bool) (a e : ℕ) → ((is && past_end s a e) ≡ false) ↔ (is ≡ true → a + 4 + 10 * u32_at s a ≤ e)
      one is a e = nand_exactly is (past_end s a e) (λ h. ltb-false e _ (sym (past_end_is s a e) ∙ h), λ h. past_end_is s a e ∙ le-ltb e _ h)

  pub read_0_exactly : (read_number_of s ≡ 0) ↔ (Good s × (streams_past s ≡ false))
  unfolding read_number_of
  read_0_exactly = (
    read_accepted s,
    λ h. (refusal_none (head_tests s ++ ((streams_past s, 10) ∷ [])) tt).1
        (le-ltb _ _ h.0.four, (ne_eqb _ _ h.0.known, (le-ltb _ _ h.0.room, (h.1, tt)))),
  )

  pub read_8_exactly : (read_number_of s ≡ 8) ↔ ((4 ≤ length s) × (kind_of s ≡ 3))
  unfolding read_number_of
  read_8_exactly =
      Iff.trans (refusal_exactly (eqb (kind_of s) 3) 8 ((ltb (length s) (4 + first_size_of s), 9) ∷ (streams_past s, 10) ∷ []) tt (λ e. omega arith) ((ltb (length s) 4, 9) ∷ []) tt)
      (λ h. (ltb-false _ _ h.0.0, eqb-true _ _ h.1), λ h. ((le-ltb _ _ h.0, tt), eq-eqb _ _ h.1))

  pub read_10_exactly : (read_number_of s ≡ 10) ↔ (Good s × (streams_past s ≡ true))
  unfolding read_number_of
  read_10_exactly =
      Iff.trans (refusal_exactly (streams_past s) 10 [] tt (λ e. omega arith) (head_tests s) tt) (
        λ h. (record { four = ltb-false _ _ h.0.0; known = eqb-false _ _ h.0.1.0; room = ltb-false _ _ h.0.1.1.0 }, h.1),
        λ h. ((le-ltb _ _ h.0.four, (ne_eqb _ _ h.0.known, (le-ltb _ _ h.0.room, tt))), h.1),
      )

  pub read_9_exactly : (read_number_of s ≡ 9) ↔ ((length s < 4) ⊎ ((4 ≤ length s) × (kind_of s ≡ 3 → ⊥) × (length s < 4 + first_size_of s)))
  unfolding read_number_of
  read_9_exactly = (
    only_if (ltb (length s) 4) (eqb (kind_of s) 3) (ltb (length s) (4 + first_size_of s)) (streams_past s) refl refl refl,
    ⊎_elim (λ h. simp (lt-ltb (length s) 4 h) refl)
        (λ h. simp (le-ltb (length s) 4 h.0, ne_eqb (kind_of s) 3 h.1, lt-ltb (length s) (4 + first_size_of s) h.2) refl),
  )
    where
      only_if : (a b c d : Bool) → ltb (length s) 4 ≡ a → eqb (kind_of s) 3 ≡ b → ltb (length s) (4 + first_size_of s) ≡ c → refusal ((a, 9) ∷ (b, 8) ∷ (c, 9) ∷ (d, 10) ∷ []) ≡ 9
          → (length s < 4) ⊎ ((4 ≤ length s) × (kind_of s ≡ 3 → ⊥) × (length s < 4 + first_size_of s))
      only_if true b c d x y z e = inl (ltb-true _ _ x)
      only_if false true c d x y z e = absurd (omega arith)
      only_if false false true d x y z e = inr (ltb-false _ _ x, eqb-false _ _ y, ltb-true _ _ z)
      only_if false false false true x y z e = absurd (omega arith)
      only_if false false false false x y z e = absurd (omega arith)

-- ---- the parts lie in the payload, in order and without overlap

none_inside : (n : ℕ) → PartsInside no_stream n
none_inside n = record { pairs_follow = refl; data_follow = refl; ends = omega arith }

stream_inside : (s : List ℕ) (a e : ℕ) → past_end s a e ≡ false → e ≤ length s → PartsInside (stream_in s a e) (length s)
stream_inside s a e p h =
    let k = ltb-false e (a + 4 + 10 * u32_at s a) (sym (past_end_is s a e) ∙ p) in
    record { pairs_follow = refl; data_follow = omega arith; ends = omega arith }

pub read_inside : (s : List ℕ) → PartsInside (read_of s).luma (length s) × PartsInside (read_of s).chroma (length s)
unfolding read_of
read_inside s = go (eqb (read_number_of s) 0) refl
  where
    carried : (is : Bool) (a e : ℕ) → (is && past_end s a e) ≡ false → e ≤ length s → PartsInside (cond is (stream_in s a e) no_stream) (length s)
    carried true a e p h = stream_inside s a e p h
    carried false a e p h = none_inside (length s)

    go : (b : Bool) → eqb (read_number_of s) 0 ≡ b
        → PartsInside (cond b (carried_of s) (refused_with (read_number_of s))).luma (length s) × PartsInside (cond b (carried_of s) (refused_with (read_number_of s))).chroma (length s)
    go true e =
        let r = read_accepted s (eqb-true (read_number_of s) 0 e) in
        let n = (nor (carries_luma (kind_of s) && past_end s 4 (luma_end s)) (carries_chroma (kind_of s) && past_end s (chroma_start s) (length s))).0 r.1 in (
          carried (carries_luma (kind_of s)) 4 (luma_end s) n.0 (follows_in s r.0 (length s) r.0.four (le_refl (length s))).1,
          carried (carries_chroma (kind_of s)) (chroma_start s) (length s) n.1 (le_refl (length s)),
        )
    go false e = (none_inside (length s), none_inside (length s))
