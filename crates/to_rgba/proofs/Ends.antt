-- How a call with one lent output ends: refused, or answered with its counts. The output ends alike for both conversions, which answer
-- different records. Assumes nothing.
use Prim.Native.Nat.{ℕ}
use mathlib.Core.Path.{◌≡◌, sym, ap, ◌∙◌}
use mathlib.Core.Bool.{cond}
use mathlib.Core.List.{List, [], ◌∷◌}
use lib.Dec.{eqb}
use borrow.Author.Tests.{ne_eqb}
use Rattle.lent.specs.Outcome.{Outcome, answer_of, lent_after}
use Rattle.lent.proofs.Bools.{cond_same, cond-false}
use Rattle.lent.proofs.Ends.{answer_refused, answer_done, lent_refused, lent_done}
use Rattle.to_rgba.specs.declared.Pixels.{Pixels}
use Rattle.to_rgba.specs.Picture.{pixels_of}

module _ {number n : ℕ} (old new : List ℕ) (is : number ≡ n) where
  module _ {A : Type 0} {r a : A} where
    ends_refused : (number ≡ 0 → ⊥) → r ≡ a → Outcome a (lent_after n old new ∷ []) r (old ∷ [])
    ends_refused some answer = record { answer = answer; buffers = λ i. lent_refused n old new (λ z. some (is ∙ z)) i ∷ [] }

    ends_done : {exit : List ℕ} → number ≡ 0 → exit ≡ new → r ≡ a → Outcome a (lent_after n old new ∷ []) r (exit ∷ [])
    ends_done none wrote answer = record { answer = answer; buffers = λ i. (wrote ∙ lent_done n old new (sym is ∙ none)) i ∷ [] }

  -- ---- a view

  pub refused : (count : ℕ) → (number ≡ 0 → ⊥) → Outcome (answer_of n count) (lent_after n old new ∷ []) (record { number = number; count = 0 }) (old ∷ [])
  refused count some = ends_refused some (answer_refused count is some)

  pub answered : {count wrote : ℕ} {exit : List ℕ} → number ≡ 0 → wrote ≡ count → exit ≡ new
      → Outcome (answer_of n count) (lent_after n old new ∷ []) (record { number = 0; count = wrote }) (exit ∷ [])
  answered none counted wrote = ends_done none wrote (answer_done (sym is ∙ none) counted)

  -- ---- a picture

  module _ (count in-u in-v : ℕ) {r : Pixels} where
    pub pixels_refused : (number ≡ 0 → ⊥) → r ≡ pixels_of number 0 0 0 → Outcome (pixels_of n count in-u in-v) (lent_after n old new ∷ []) r (old ∷ [])
    pixels_refused some answer = ends_refused some (answer ∙ (λ i. record { number = is i; count = zero count i; filtered_u = zero in-u i; filtered_v = zero in-v i }))
      where
        zero : (x : ℕ) → cond (eqb number 0) 0 0 ≡ cond (eqb n 0) x 0
        zero x = cond_same (eqb number 0) 0 ∙ sym (cond-false (eqb n 0) x 0 (ne_eqb n 0 (λ z. some (is ∙ z))))

    pub pixels_answered : {exit : List ℕ} → number ≡ 0 → r ≡ pixels_of 0 count in-u in-v → exit ≡ new
        → Outcome (pixels_of n count in-u in-v) (lent_after n old new ∷ []) r (exit ∷ [])
    pixels_answered none answer wrote = ends_done none wrote (answer ∙ ap (λ (m : ℕ). pixels_of m count in-u in-v) (sym none ∙ is))
