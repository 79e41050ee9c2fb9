-- How `read` ends: the first number, each stream, and both together.
-- Assumes nothing.
use Prim.Native.Nat.{ℕ, ◌+◌, ◌*◌, ◌≤◌}
use native.Mathlib.Omega.{arith}
use mathlib.Core.Path.{◌≡◌, refl, sym, ap, ◌∙◌}
use mathlib.Core.Bool.{Bool, true, false, cond, ◌&&◌, ◌||◌}
use mathlib.Core.List.{List, [], ◌∷◌, ◌++◌}
use lib.Dec.{ltb, eqb}
use lib.ListN.{length}
use borrow.Author.Tests.{ltb-true, ltb-false, lt-ltb, le-ltb, eq-eqb, ne_eqb, eqb-false}
use Rattle.lent.specs.Refusal.{refusal}
use Rattle.lent.proofs.Bools.{or_left, or_right, cond-true, cond-false}
use Rattle.lent.proofs.Exactly.{nor}
use Rattle.lent.proofs.Refusal.{refusal_none, refusal_first}
use Rattle.wire_fields.specs.Fields.{u32_at}
use Rattle.wire_read.specs.declared.Stream.{Stream}
use Rattle.std.specs.Prelude.{Option, Some, None}
use Rattle.wire_read.specs.Reading.{kind_of, first_size_of, carries_luma, carries_chroma, follows, luma_end, chroma_start, stream_in, no_stream, past_end, FoundValues, whole_stream, past_stream, found_of, carried_at, head_tests, head_number_of, streams_past, read_number_of, refused_with, carried_of, read_of}

-- ---- a stream

-- a count that runs past the stream is one of the ways to run past it
pub past_end_is : (s : List ℕ) (a e : ℕ) → past_end s a e ≡ ltb e (a + 4 + 10 * u32_at s a)
unfolding past_end
past_end_is s a e = same (ltb e (a + 4)) _ (λ h. lt-ltb e (a + 4 + 10 * u32_at s a) (let l = ltb-true e (a + 4) h in omega arith))
  where
    same : (p q : Bool) → (p ≡ true → q ≡ true) → (p || q) ≡ q
    same true q f = sym (f refl)
    same false q f = refl

-- what a stream looked for says
module _ (is : Bool) (s : List ℕ) (a e : ℕ) {r : Option Stream} (says : found_of r ≡ carried_at is s a e) where
  pub found_past : r ≡ None → (is && past_end s a e) ≡ true
  found_past p = go is (past_end s a e) (ap (λ (v : FoundValues). v.number) (sym (ap found_of p) ∙ says))
    where
      go : (b t : Bool) → 10 ≡ (cond b (cond t past_stream (whole_stream (stream_in s a e))) (whole_stream no_stream)).number → (b && t) ≡ true
      go true true q = refl
      go true false q = absurd (omega arith)
      go false t q = absurd (omega arith)

  pub found_whole : {x : Stream} → r ≡ Some x → ((is && past_end s a e) ≡ false) × (x ≡ cond is (stream_in s a e) no_stream)
  found_whole {x} p = go is (past_end s a e) (sym (ap found_of p) ∙ says)
    where
      go : (b t : Bool) → whole_stream x ≡ cond b (cond t past_stream (whole_stream (stream_in s a e))) (whole_stream no_stream) → ((b && t) ≡ false) × (x ≡ cond b (stream_in s a e) no_stream)
      go true true q = let n = ap (λ (v : FoundValues). v.number) q in absurd (omega arith)
      go true false q = (refl, ap (λ (v : FoundValues). v.stream) q)
      go false t q = (refl, ap (λ (v : FoundValues). v.stream) q)

-- ---- the first number

module _ (s : List ℕ) where
  pub head_good : 4 ≤ length s → (kind_of s ≡ 3 → ⊥) → 4 + first_size_of s ≤ length s → 0 ≡ head_number_of s
  unfolding head_number_of
  head_good h k p = simp (le-ltb (length s) 4 h, ne_eqb (kind_of s) 3 k, le-ltb (length s) (4 + first_size_of s) p) refl

  pub record Good : Type 0 where
    pub four : 4 ≤ length s
    pub known : kind_of s ≡ 3 → ⊥
    pub room : 4 + first_size_of s ≤ length s

  pub head_facts : head_number_of s ≡ 0 → Good
  unfolding head_number_of
  head_facts e =
      let n = (refusal_none (head_tests s) tt).0 e in
      record { four = ltb-false _ _ n.0; known = eqb-false _ _ n.1.0; room = ltb-false _ _ n.1.1.0 }

  pub read_accepted : read_number_of s ≡ 0 → Good × (streams_past s ≡ false)
  unfolding read_number_of
  read_accepted e =
      let n = (refusal_none (head_tests s ++ ((streams_past s, 10) ∷ [])) tt).0 e in
      (record { four = ltb-false _ _ n.0; known = eqb-false _ _ n.1.0; room = ltb-false _ _ n.1.1.0 }, n.1.1.1.0)

  -- past the first stream, or elsewhere in the payload
  pub follows_in : Good → (other : ℕ) → 4 ≤ other → other ≤ length s → (4 ≤ follows (kind_of s) (first_size_of s) other) × (follows (kind_of s) (first_size_of s) other ≤ length s)
  follows_in g other h k = go (eqb (kind_of s) 0)
    where
      go : (b : Bool) → (4 ≤ cond b (4 + first_size_of s) other) × (cond b (4 + first_size_of s) other ≤ length s)
      go true = (omega arith, g.room)
      go false = (h, k)

  -- ---- the call

  -- a first number that is refused is the payload's
  pub head_refused : (n : ℕ) → n ≡ head_number_of s → (n ≡ 0 → ⊥) → n ≡ read_number_of s
  unfolding head_number_of read_number_of
  head_refused n e some = e ∙ sym (refusal_first (head_tests s) ((streams_past s, 10) ∷ []) (λ z. some (e ∙ z)))

  pub read_refused : (n : ℕ) → n ≡ read_number_of s → (n ≡ 0 → ⊥) → refused_with n ≡ read_of s
  unfolding read_of
  read_refused n is some = ap refused_with is ∙ sym (cond-false (eqb (read_number_of s) 0) _ _ (ne_eqb _ _ (λ z. some (is ∙ z))))

  number_past : head_number_of s ≡ 0 → (b : Bool) → refusal (head_tests s ++ ((b, 10) ∷ [])) ≡ cond b 10 0
  unfolding head_number_of
  number_past e b =
      let n = (refusal_none (head_tests s) tt).0 e in
      simp (n.0, n.1.0, n.1.1.0) refl

  pub read_past : head_number_of s ≡ 0 → streams_past s ≡ true → 10 ≡ read_number_of s
  unfolding read_number_of
  read_past e p = sym (number_past e (streams_past s) ∙ cond-true (streams_past s) 10 0 p)

  pub read_whole : head_number_of s ≡ 0 → streams_past s ≡ false → 0 ≡ read_number_of s
  unfolding read_number_of
  read_whole e p = sym (number_past e (streams_past s) ∙ cond-false (streams_past s) 10 0 p)

  pub read_carried : 0 ≡ read_number_of s → carried_of s ≡ read_of s
  unfolding read_of
  read_carried e = sym (cond-true (eqb (read_number_of s) 0) _ _ (eq-eqb _ _ (sym e)))

-- the call, from what its steps found: k and z are the kind and the size as the code has them
module _ (s : List ℕ) {k z : ℕ} (is-kind : k ≡ kind_of s) (is-size : z ≡ first_size_of s) where
  abbrev luma : FoundValues
  luma = carried_at (carries_luma (kind_of s)) s 4 (luma_end s)

  abbrev chroma : FoundValues
  chroma = carried_at (carries_chroma (kind_of s)) s (chroma_start s) (length s)

  pub luma_is : {b : Bool} {p : ℕ} → b ≡ carries_luma k → p ≡ follows k z (length s) → carried_at b s 4 p ≡ luma
  luma_is has at = λ i. carried_at ((has ∙ ap carries_luma is-kind) i) s 4 ((at ∙ (λ j. follows (is-kind j) (is-size j) (length s))) i)

  pub chroma_is : {b : Bool} {p : ℕ} → b ≡ carries_chroma k → p ≡ follows k z 4 → carried_at b s p (length s) ≡ chroma
  chroma_is has at = λ i. carried_at ((has ∙ ap carries_chroma is-kind) i) s ((at ∙ (λ j. follows (is-kind j) (is-size j) 4)) i) (length s)

  module _ (good : head_number_of s ≡ 0) where
    pub first_past : {r : Option Stream} → found_of r ≡ luma → r ≡ None → 10 ≡ read_number_of s
    first_past says p = read_past s good (or_left (carries_luma (kind_of s) && past_end s 4 (luma_end s)) _ (found_past (carries_luma (kind_of s)) s 4 (luma_end s) says p))

    pub second_past : {r : Option Stream} → found_of r ≡ chroma → r ≡ None → 10 ≡ read_number_of s
    second_past says p =
        read_past s good
        (or_right (carries_luma (kind_of s) && past_end s 4 (luma_end s)) _ (found_past (carries_chroma (kind_of s)) s (chroma_start s) (length s) says p))

    pub both_whole : {q r : Option Stream} {x y : Stream} → found_of q ≡ luma → q ≡ Some x → found_of r ≡ chroma → r ≡ Some y
        → (0 ≡ read_number_of s) × (record { number = 0; kind = k; luma = x; chroma = y } ≡ read_of s)
    both_whole f g f' g' =
        let l = found_whole (carries_luma (kind_of s)) s 4 (luma_end s) f g in
        let c = found_whole (carries_chroma (kind_of s)) s (chroma_start s) (length s) f' g' in
        let whole = read_whole s good ((nor (carries_luma (kind_of s) && past_end s 4 (luma_end s)) _).1 (l.0, c.0)) in
        (whole, (λ i. record { number = 0; kind = is-kind i; luma = l.1 i; chroma = c.1 i }) ∙ read_carried s whole)
