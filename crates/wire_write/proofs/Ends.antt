-- The one way in which the call ends, and what it says of the answer and of the output.
-- Assumes nothing.
use Prim.Native.Nat.{ℕ, ◌≤◌}
use native.Mathlib.Omega.{arith}
use mathlib.Core.Path.{◌≡◌, refl, sym, ap, ◌∙◌}
use mathlib.Core.List.{List, [], ◌∷◌, ◌++◌}
use lib.ListN.{length, take, drop, length-append}
use lib.Seq.{take-append_seam}
use Rattle.lent.specs.declared.Answer.{Answer}
use Rattle.lent.specs.Outcome.{answer_of, lent_after}
use Rattle.lent.proofs.Ends.{answer_done, lent_done}
use Rattle.lent.proofs.Outcome.{outcome_unique}
use Rattle.wire_write.specs.Number.{write_number_of}
use Rattle.wire_write.specs.Writing.{Given, payload_of, given_number_of, WriteOutcome}

module _ (kind : ℕ) (l c : Given) where
  pub write_unique : (out : List ℕ) (r q : Answer) (rs qs : List (List ℕ)) → WriteOutcome kind l c out r rs → WriteOutcome kind l c out q qs → (r ≡ q) × (rs ≡ qs)
  write_unique =
      outcome_unique (λ (out : List ℕ). answer_of (given_number_of kind l c (length out)) (length (payload_of kind l c)))
      (λ (out : List ℕ). lent_after (given_number_of kind l c (length out)) out (payload_of kind l c ++ drop (length (payload_of kind l c)) out) ∷ [])

  module _ (out : List ℕ) {r : Answer} {after : List ℕ} (o : WriteOutcome kind l c out r (after ∷ [])) where
    abbrev n : ℕ
    n = given_number_of kind l c (length out)

    abbrev payload : List ℕ
    payload = payload_of kind l c

    pub number_is : r.number ≡ n
    number_is = ap (λ (a : Answer). a.number) o.answer

    pub after_is : after ≡ lent_after n out (payload ++ drop (length payload) out)
    after_is = let e = o.buffers in cc

    module _ (zero_number : n ≡ 0) where
      pub count_is : r.count ≡ length payload
      count_is = ap (λ (a : Answer). a.count) (o.answer ∙ sym (answer_done zero_number refl))

      pub written : after ≡ payload ++ drop (length payload) out
      written = after_is ∙ sym (lent_done n out _ zero_number)

      -- the payload is what the count says
      pub counted : take r.count after ≡ payload
      counted = (λ i. take (count_is i) (written i)) ∙ take-append_seam payload (drop (length payload) out)

      pub count_fits : r.count ≤ length after
      count_fits = let e = count_is in let f = ap length written in let g = length-append payload (drop (length payload) out) in omega arith

-- the parts of a stream that is not carried have no effect
pub chroma_ignored : (l c d : Given) (n : ℕ) → (given_number_of 1 l c n ≡ given_number_of 1 l d n) × (payload_of 1 l c ≡ payload_of 1 l d)
unfolding write_number_of payload_of
chroma_ignored l c d n = (refl, refl)

pub luma_ignored : (k l c : Given) (n : ℕ) → (given_number_of 2 k c n ≡ given_number_of 2 l c n) × (payload_of 2 k c ≡ payload_of 2 l c)
unfolding write_number_of payload_of
luma_ignored k l c n = (refl, refl)
