-- The one law of uniqueness: what is worked out from the inputs is the only way for a call to end. Each call cites it in a line.
-- Assumes nothing.
use Prim.Native.Nat.{ℕ}
use mathlib.Core.Path.{◌≡◌, sym, ◌∙◌}
use mathlib.Core.List.{List}
use denote.Ref.{Bor}
use Rattle.lent.specs.Outcome.{Outcome, OwnPart}

pub outcome_unique : {I A : Type 0} (answer_of : I → A) (buffersOf : I → List (List ℕ)) (i : I) (r q : A) (rs qs : List (List ℕ))
    → Outcome (answer_of i) (buffersOf i) r rs → Outcome (answer_of i) (buffersOf i) q qs → (r ≡ q) × (rs ≡ qs)
outcome_unique f g i r q rs qs x y = (x.answer ∙ sym y.answer, x.buffers ∙ sym y.buffers)

-- and of a part that is handed back: its block, its offset and its bytes
pub own_part_unique : {lent r q : Bor (List ℕ)} {at : ℕ} {bytes : List ℕ} → OwnPart lent r at bytes → OwnPart lent q at bytes → (r.ref_ptr.0 ≡ q.ref_ptr.0) × (r.ref_ptr.1 ≡ q.ref_ptr.1) × (r.now ≡ q.now)
own_part_unique x y = (x.block ∙ sym y.block, x.offset ∙ sym y.offset, x.holds ∙ sym y.holds)
