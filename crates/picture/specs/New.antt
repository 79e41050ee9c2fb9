-- A fresh picture (R40; number 1: R22).
--
--   new_number_of z ny nu nv    the number that `new` answers, from the size and the planes' lengths
--   fresh_luma, fresh_chroma    "A fresh picture has Y 0, U and V 128"
--   fresh_buffers_of n z y u v  what the three lent buffers hold after a call that answers n and makes a fresh picture
--   new_buffers_of z y u v      what they hold after `new`
--   NewOutcome z y u v        how `new` ends, refusals included
use Rattle.std.specs.Prelude.{ℕ, List, [], ◌∷◌, length}
use Rattle.lent.specs.declared.Answer.{Answer}
use Rattle.lent.specs.Outcome.{Outcome, answer_of, lent_after}
use Rattle.lent.specs.Refusal.{refusal}
use Rattle.picture.specs.declared.Size.{Size}
use Rattle.picture.specs.Sizes.{planes_short, plane_of}

abbrev pub new_number_of : Size → ℕ → ℕ → ℕ → ℕ
new_number_of z ny nu nv = refusal ((planes_short z ny nu nv, 1) ∷ [])

abbrev pub fresh_luma : ℕ → ℕ → ℕ
fresh_luma r c = 0

abbrev pub fresh_chroma : ℕ → ℕ → ℕ
fresh_chroma r c = 128

abbrev pub fresh_buffers_of : ℕ → Size → List ℕ → List ℕ → List ℕ → List (List ℕ)
fresh_buffers_of n z y u v =
    lent_after n y (plane_of z fresh_luma y) ∷ lent_after n u (plane_of z fresh_chroma u) ∷ lent_after n v (plane_of z fresh_chroma v) ∷ []

unfoldable pub new_buffers_of : Size → List ℕ → List ℕ → List ℕ → List (List ℕ)
new_buffers_of z y u v = fresh_buffers_of (new_number_of z (length y) (length u) (length v)) z y u v

abbrev pub NewOutcome : Size → List ℕ → List ℕ → List ℕ → Answer → List (List ℕ) → Type 0
NewOutcome z y u v = Outcome (answer_of (new_number_of z (length y) (length u) (length v)) 0) (new_buffers_of z y u v)
