-- A view is made in one way: two answers that meet the contract of `new` on equal inputs are equal.
-- Assumes nothing.
use Prim.Native.Nat.{ℕ}
use mathlib.Core.Path.{◌≡◌}
use mathlib.Core.List.{List, []}
use lib.ListN.{length}
use denote.Ref.{Bor}
use Rattle.lent.specs.declared.Answer.{Answer}
use Rattle.lent.specs.Outcome.{Outcome, answer_of}
use Rattle.lent.proofs.Outcome.{outcome_unique}
use Rattle.view.specs.declared.View.{View}
use Rattle.view.specs.View.{view_number_of}

module _ (w : View) (y u v : Bor (List ℕ)) where
  abbrev number : ℕ
  number = view_number_of w (length y.now) (length u.now) (length v.now)

  pub new_unique : (r q : Answer) (rs qs : List (List ℕ)) → Outcome (answer_of number 0) [] r rs → Outcome (answer_of number 0) [] q qs → (r ≡ q) × (rs ≡ qs)
  new_unique = outcome_unique (λ (n : ℕ). answer_of n 0) (λ n. []) number
