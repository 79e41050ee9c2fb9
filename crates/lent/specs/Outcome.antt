-- How a call ends, in one shape for every call.
--
--   Outcome a bs r rs     the call answered r and left rs in the buffers that were lent to be written; a and bs are worked out from
--                         the inputs, so that two calls on equal inputs end alike (`outcome_unique`)
--   answer_of n count      the answer with the number n: a refusal has count 0
--   lent_after n old new   what a buffer holds after a call that answered n: a refusal alters no lent byte
--   OwnPart lent r at bytes     the part r that a call hands back is the caller's own memory, not a copy: it lies in the block of what
--                         was lent, `at` bytes in, and holds these bytes
use Rattle.std.specs.Prelude.{ℕ, ◌+◌, ◌≡◌, cond, List, eqb}
use Rattle.std.specs.Borrow.{Bor}
use Rattle.lent.specs.declared.Answer.{Answer}

pub record Outcome {A : Type 0} (a : A) (bs : List (List ℕ)) (r : A) (rs : List (List ℕ)) : Type 0 where
  pub answer : r ≡ a
  pub buffers : rs ≡ bs

abbrev pub answer_of : ℕ → ℕ → Answer
answer_of n count = record { number = n; count = cond (eqb n 0) count 0 }

abbrev pub lent_after : ℕ → List ℕ → List ℕ → List ℕ
lent_after n old new = cond (eqb n 0) new old

pub record OwnPart (lent r : Bor (List ℕ)) (at : ℕ) (bytes : List ℕ) : Type 0 where
  pub block : r.ref_ptr.0 ≡ lent.ref_ptr.0
  pub offset : r.ref_ptr.1 ≡ at + lent.ref_ptr.1
  pub holds : r.now ≡ bytes
