-- How a call over three planes ends: a refusal leaves them as they were, and number 0 leaves what the call makes. Bytes after the plane
-- never change. Assumes nothing.
use Prim.Native.Nat.{ℕ, ◌*◌, ◌<◌, ◌≤◌}
use mathlib.Core.Path.{◌≡◌, refl, sym, ◌∙◌}
use mathlib.Core.Bool.{Bool, true, false, cond}
use mathlib.Core.List.{List, [], ◌∷◌}
use lib.Dec.{eqb}
use lib.ListN.{length, get_or}
use Rattle.lent.specs.Outcome.{Outcome, answer_of, lent_after}
use Rattle.lent.proofs.Ends.{answer_none, lent_refused, lent_done}
use Rattle.lent.proofs.Painted.{painted_past}
use Rattle.picture.specs.declared.Size.{Size}
use Rattle.picture.specs.Sizes.{stride_of, rows_of, plane_of}

module _ (n : ℕ) (y u v y' u' v' : List ℕ) where
  pub refused : {m : ℕ} → m ≡ n → (m ≡ 0 → ⊥) → Outcome (answer_of n 0) (lent_after n y y' ∷ lent_after n u u' ∷ lent_after n v v' ∷ []) (record { number = m; count = 0 }) (y ∷ u ∷ v ∷ [])
  refused e pos =
      let f : n ≡ 0 → ⊥ = λ z. pos (e ∙ z) in
      record { answer = answer_none e; buffers = λ i. lent_refused n y y' f i ∷ lent_refused n u u' f i ∷ lent_refused n v v' f i ∷ [] }

  pub done : {ys us vs : List ℕ} → n ≡ 0 → ys ≡ y' → us ≡ u' → vs ≡ v' → Outcome (answer_of n 0) (lent_after n y y' ∷ lent_after n u u' ∷ lent_after n v v' ∷ []) (record { number = 0; count = 0 }) (ys ∷ us ∷ vs ∷ [])
  done e p q r =
      record { answer = answer_none (sym e); buffers = λ i. (p ∙ lent_done n y y' e) i ∷ (q ∙ lent_done n u u' e) i ∷ (r ∙ lent_done n v v' e) i ∷ [] }

-- "bytes after it never change": whatever number is answered, and whatever the plane is made to hold
pub past_kept : (n : ℕ) (z : Size) (s : ℕ → ℕ → ℕ) (xs : List ℕ) (k : ℕ) → rows_of z * stride_of z ≤ k → k < length xs → get_or (lent_after n xs (plane_of z s xs)) k 0 ≡ get_or xs k 0
past_kept n z s xs k ge lt = either_way (eqb n 0)
  where
    either_way : (b : Bool) → get_or (cond b (plane_of z s xs) xs) k 0 ≡ get_or xs k 0
    either_way true = painted_past (stride_of z) (rows_of z) _ s xs k ge lt
    either_way false = refl
