-- A call that is lent the map ends as the call that has no map does, and its map beside the other buffers: from the outcome of the call that has
-- no map to that of the call that has one. Where it is refused the map is as it was; else it is what the call makes of it.
-- Assumes nothing.
use Prim.Native.Nat.{ℕ}
use mathlib.Core.Path.{◌≡◌, sym, ap, ◌∙◌}
use mathlib.Core.List.{List, [], ◌∷◌, ◌++◌}
use Rattle.lent.specs.Outcome.{Outcome, answer_of, lent_after}
use Rattle.lent.specs.declared.Answer.{Answer}
use Rattle.lent.proofs.Ends.{lent_refused, lent_done}
use Rattle.picture.proofs.Calls.{refused}

-- one buffer more
pub joined : {A : Type 0} {a r : A} {bs rs : List (List ℕ)} {m' m : List ℕ} → Outcome a bs r rs → m' ≡ m → Outcome a (bs ++ (m ∷ [])) r (rs ++ (m' ∷ []))
joined call is = record { answer = call.answer; buffers = λ i. call.buffers i ++ (is i ∷ []) }

-- the call that has no map answered n
module _ (n count : ℕ) (m new : List ℕ) {bs rs : List (List ℕ)} {r : Answer} (call : Outcome (answer_of n count) bs r rs) where
  number_is : r.number ≡ n
  number_is = ap (λ (a : Answer). a.number) call.answer

  pub joined_passed : (r.number ≡ 0 → ⊥) → Outcome (answer_of n count) (bs ++ (lent_after n m new ∷ [])) r (rs ++ (m ∷ []))
  joined_passed some = joined call (lent_refused n m new (λ z. some (number_is ∙ z)))

  pub joined_set : {m' : List ℕ} → r.number ≡ 0 → m' ≡ new → Outcome (answer_of n count) (bs ++ (lent_after n m new ∷ [])) r (rs ++ (m' ∷ []))
  joined_set none is = joined call (is ∙ lent_done n m new (sym number_is ∙ none))

-- it was not run: every buffer is as it was
module _ (n : ℕ) (y u v m y' u' v' m' : List ℕ) where
  pub joined_refused : {k : ℕ} → k ≡ n → (k ≡ 0 → ⊥)
      → Outcome (answer_of n 0) (lent_after n y y' ∷ lent_after n u u' ∷ lent_after n v v' ∷ lent_after n m m' ∷ []) (record { number = k; count = 0 }) (y ∷ u ∷ v ∷ m ∷ [])
  joined_refused is some = joined (refused n y u v y' u' v' is some) (lent_refused n m m' (λ z. some (is ∙ z)))

-- what two equal numbers make is the same
pub renumbered : (count : ℕ) (bs : ℕ → List (List ℕ)) {k n : ℕ} {r : Answer} {rs : List (List ℕ)} → k ≡ n
    → Outcome (answer_of k count) (bs k) r rs → Outcome (answer_of n count) (bs n) r rs
renumbered count bs is call = record { answer = call.answer ∙ ap (λ (k : ℕ). answer_of k count) is; buffers = call.buffers ∙ ap bs is }
