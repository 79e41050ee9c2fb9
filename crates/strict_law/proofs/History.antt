-- The list of accepted calls (R78) has the strict calls in it: one that answers 0 was the clipping call, and is the list's next; one that is refused
-- leaves the map.
-- Assumes nothing.
use Prim.Native.Nat.{ℕ}
use mathlib.Core.Path.{◌≡◌, ap}
use mathlib.Core.List.{List, [], ◌∷◌, ◌++◌}
use lib.ListN.{get_or}
use Rattle.lent.specs.declared.Answer.{Answer}
use Rattle.picture.specs.declared.Size.{Size}
use Rattle.view.specs.declared.View.{View}
use Rattle.layout.specs.declared.Layout.{Layout}
use Rattle.map_apply.specs.Blocks.{Call}
use Rattle.map_apply.specs.Blocks.Call.{Main, Auxiliary}
use Rattle.map_law.specs.History.{Lived}
use Rattle.map_law.proofs.Accepted.{main_next, auxiliary_next}
use Rattle.strict.specs.Calls.{StrictMainOutcome, StrictAuxiliaryOutcome}
use Rattle.strict.proofs.Laws.{strict_main_same, strict_auxiliary_same, strict_main_refused_kept, strict_auxiliary_refused_kept}

module _ (z : Size) (w : View) (rects vy vu vv y u v m : List ℕ) {r : Answer} {y' u' v' m' : List ℕ} where
  pub strict_main_next : {s : ℕ → ℕ → ℕ} {m₀ : List ℕ} {calls : List Call} → Lived z s m₀ calls m
      → StrictMainOutcome z w rects vy vu vv y u v m r (y' ∷ u' ∷ v' ∷ m' ∷ []) → r.number ≡ 0 → Lived z s m₀ (calls ++ (Main w rects ∷ [])) m'
  strict_main_next lived ends zero = main_next z w rects vy vu vv y u v m lived (strict_main_same z w rects vy vu vv y u v m ends zero) zero

  pub strict_auxiliary_next : (t : Layout) {s : ℕ → ℕ → ℕ} {m₀ : List ℕ} {calls : List Call} → Lived z s m₀ calls m
      → StrictAuxiliaryOutcome t z w rects vy vu vv y u v m r (y' ∷ u' ∷ v' ∷ m' ∷ []) → r.number ≡ 0 → Lived z s m₀ (calls ++ (Auxiliary t w rects ∷ [])) m'
  strict_auxiliary_next t lived ends zero = auxiliary_next z w rects vy vu vv y u v m t lived (strict_auxiliary_same z w rects vy vu vv y u v m t ends zero) zero

  pub strict_main_refused : StrictMainOutcome z w rects vy vu vv y u v m r (y' ∷ u' ∷ v' ∷ m' ∷ []) → (r.number ≡ 0 → ⊥) → m' ≡ m
  strict_main_refused ends some = ap (λ (bs : List (List ℕ)). get_or bs 3 []) (strict_main_refused_kept z w rects vy vu vv y u v m ends some)

  pub strict_auxiliary_refused : (t : Layout) → StrictAuxiliaryOutcome t z w rects vy vu vv y u v m r (y' ∷ u' ∷ v' ∷ m' ∷ []) → (r.number ≡ 0 → ⊥) → m' ≡ m
  strict_auxiliary_refused t ends some = ap (λ (bs : List (List ℕ)). get_or bs 3 []) (strict_auxiliary_refused_kept z w rects vy vu vv y u v m t ends some)
