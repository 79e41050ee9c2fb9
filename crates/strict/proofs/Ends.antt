-- How a strict call ends, once its number is known: a refusal leaves every lent buffer as it was; with 0 the clipping call is run, whose number is
-- 0 too, and what it leaves is what is left.
-- Assumes nothing.
use Prim.Native.Nat.{ℕ}
use mathlib.Core.Path.{◌≡◌, sym, ◌∙◌}
use mathlib.Core.List.{List, [], ◌∷◌, ◌++◌}
use lib.ListN.{length}
use Rattle.lent.specs.declared.Answer.{Answer}
use Rattle.lent.proofs.Ends.{answer_none, lent_refused}
use Rattle.picture.specs.declared.Size.{Size}
use Rattle.view.specs.declared.View.{View}
use Rattle.layout.specs.declared.Layout.{Layout}
use Rattle.map.proofs.Joined.{renumbered}
use Rattle.map_apply.specs.Blocks.{map_after}
use Rattle.map_apply.specs.Blocks.Call.{Main, Auxiliary}
use Rattle.map_apply.specs.Calls.{lent_map_number_of, map_main_buffers_of, map_auxiliary_buffers_of, MapMainOutcome, MapAuxiliaryOutcome}
use Rattle.map_apply.proofs.Ends.{main_kept, auxiliary_kept}
use Rattle.strict.specs.Calls.{lent_strict_number_of, StrictMainOutcome, StrictAuxiliaryOutcome}
use Rattle.strict.proofs.Number.{strict_0}

module _ (z : Size) (w : View) (rects vy vu vv y u v m : List ℕ) where
  abbrev number : ℕ
  number = lent_strict_number_of z w rects vy vu vv y u v m

  -- a number that is not 0 leaves the four buffers
  pub main_left : (number ≡ 0 → ⊥) → y ∷ u ∷ v ∷ m ∷ [] ≡ map_main_buffers_of number z w rects vy vu vv y u v m
  main_left some = λ i. main_kept z w rects vy vu vv y u v number some i ++ (lent_refused number m (map_after z (Main w rects) m) some i ∷ [])

  pub auxiliary_left : (t : Layout) → (number ≡ 0 → ⊥) → y ∷ u ∷ v ∷ m ∷ [] ≡ map_auxiliary_buffers_of number t z w rects vy vu vv y u v m
  auxiliary_left t some = λ i. auxiliary_kept z w rects vy vu vv y u v number some t i ++ (lent_refused number m (map_after z (Auxiliary t w rects) m) some i ∷ [])

  pub main_refused : {k : ℕ} → k ≡ number → (k ≡ 0 → ⊥) → StrictMainOutcome z w rects vy vu vv y u v m (record { number = k; count = 0 }) (y ∷ u ∷ v ∷ m ∷ [])
  main_refused is some = record { answer = answer_none is; buffers = main_left (λ e. some (is ∙ e)) }

  pub auxiliary_refused : (t : Layout) {k : ℕ} → k ≡ number → (k ≡ 0 → ⊥)
      → StrictAuxiliaryOutcome t z w rects vy vu vv y u v m (record { number = k; count = 0 }) (y ∷ u ∷ v ∷ m ∷ [])
  auxiliary_refused t is some = record { answer = answer_none is; buffers = auxiliary_left t (λ e. some (is ∙ e)) }

  -- the clipping call's number is the strict one
  zeros : number ≡ 0 → lent_map_number_of z w rects vy vu vv y u v m ≡ number
  zeros none = strict_0 z w rects (length y) (length u) (length v) (length m) (length vy) (length vu) (length vv) none ∙ sym none

  pub main_run : number ≡ 0 → {r : Answer} {rs : List (List ℕ)} → MapMainOutcome z w rects vy vu vv y u v m r rs → StrictMainOutcome z w rects vy vu vv y u v m r rs
  main_run none call = renumbered 0 (λ n. map_main_buffers_of n z w rects vy vu vv y u v m) (zeros none) call

  pub auxiliary_run : (t : Layout) → number ≡ 0 → {r : Answer} {rs : List (List ℕ)}
      → MapAuxiliaryOutcome t z w rects vy vu vv y u v m r rs → StrictAuxiliaryOutcome t z w rects vy vu vv y u v m r rs
  auxiliary_run t none call = renumbered 0 (λ n. map_auxiliary_buffers_of n t z w rects vy vu vv y u v m) (zeros none) call
