-- When `new` refuses, and that its outcome is the only one. Assumes nothing.
use Prim.Native.Nat.{ℕ, ◌*◌, ◌<◌}
use native.Mathlib.Omega.{arith}
use mathlib.Core.Path.{◌≡◌}
use mathlib.Core.Logic.Iff
use mathlib.Core.Logic.{◌↔◌, ◌⊎◌, true-and, and-true}
use mathlib.Core.List.{List, [], ◌∷◌}
use lib.ListN.{length}
use Rattle.lent.specs.Outcome.{answer_of}
use Rattle.lent.specs.declared.Answer.{Answer}
use Rattle.lent.proofs.Refusal.{refusal_exactly, refusal_none}
use Rattle.lent.proofs.Outcome.{outcome_unique}
use Rattle.picture.specs.declared.Size.{Size}
use Rattle.picture.specs.Sizes.{stride_of, rows_of, planes_short, PlanesFit}
use Rattle.picture.specs.New.{new_number_of, new_buffers_of, NewOutcome}
use Rattle.picture.proofs.Sizes.{short_exactly, fit_exactly}

module _ (z : Size) (ny nu nv : ℕ) where
  pub new_1_exactly : (new_number_of z ny nu nv ≡ 1) ↔ (((ny < rows_of z * stride_of z) ⊎ (nu < rows_of z * stride_of z)) ⊎ (nv < rows_of z * stride_of z))
  new_1_exactly = Iff.trans (refusal_exactly (planes_short z ny nu nv) 1 [] tt (λ e. omega arith) [] tt) (Iff.trans true-and (short_exactly z ny nu nv))

  pub new_0_exactly : (new_number_of z ny nu nv ≡ 0) ↔ PlanesFit z ny nu nv
  new_0_exactly = Iff.trans (refusal_none ((planes_short z ny nu nv, 1) ∷ []) tt) (Iff.trans and-true (fit_exactly z ny nu nv))

-- the call's input: the size and the three buffers
abbrev pub NewInput : Type 0
NewInput = Size × List ℕ × List ℕ × List ℕ

abbrev pub new_answer_of : NewInput → Answer
new_answer_of i = answer_of (new_number_of i.0 (length i.1) (length i.2) (length i.3)) 0

abbrev pub new_buffers : NewInput → List (List ℕ)
new_buffers i = new_buffers_of i.0 i.1 i.2 i.3

pub new_unique : (z : Size) (y u v : List ℕ) (r q : Answer) (rs qs : List (List ℕ)) → NewOutcome z y u v r rs → NewOutcome z y u v q qs → (r ≡ q) × (rs ≡ qs)
new_unique z y u v = outcome_unique new_answer_of new_buffers (z, y, u, v)
