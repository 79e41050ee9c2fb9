-- What a caller leans on: each strict call ends in one way; a refusal leaves the planes and the map as they were; an accepted strict call is the
-- clipping call; and of a sound list it is so whatever is answered, refusals included.
-- Assumes nothing.
use Prim.Native.Nat.{ℕ}
use mathlib.Core.Path.{◌≡◌, sym, ap, ◌∙◌}
use mathlib.Core.Bool.{false}
use mathlib.Core.Logic.{◌↔◌}
use mathlib.Core.List.{List, [], ◌∷◌}
use lib.ListN.{length}
use Rattle.lent.specs.declared.Answer.{Answer}
use Rattle.lent.specs.Outcome.{answer_of}
use Rattle.lent.proofs.Outcome.{outcome_unique}
use Rattle.picture.specs.declared.Size.{Size}
use Rattle.view.specs.declared.View.{View}
use Rattle.layout.specs.declared.Layout.{Layout}
use Rattle.map.proofs.Joined.{renumbered}
use Rattle.map_apply.specs.Calls.{lent_map_number_of, map_main_buffers_of, map_auxiliary_buffers_of, MapMainOutcome, MapAuxiliaryOutcome}
use Rattle.strict.specs.Sound.{unsound}
use Rattle.strict.specs.Calls.{lent_strict_number_of, StrictMainOutcome, StrictAuxiliaryOutcome}
use Rattle.strict.proofs.Number.{strict_same, accepted_sound}
use Rattle.strict.proofs.Ends.{main_left, auxiliary_left}

module _ (z : Size) (w : View) (rects vy vu vv y u v m : List ℕ) where
  abbrev number : ℕ
  number = lent_strict_number_of z w rects vy vu vv y u v m

  abbrev main : ℕ → List (List ℕ)
  main n = map_main_buffers_of n z w rects vy vu vv y u v m

  abbrev auxiliary : Layout → ℕ → List (List ℕ)
  auxiliary t n = map_auxiliary_buffers_of n t z w rects vy vu vv y u v m

  -- ---- a call ends in one way

  pub strict_main_unique : (r q : Answer) (rs qs : List (List ℕ)) → StrictMainOutcome z w rects vy vu vv y u v m r rs → StrictMainOutcome z w rects vy vu vv y u v m q qs
      → (r ≡ q) × (rs ≡ qs)
  strict_main_unique = outcome_unique (λ (n : ℕ). answer_of n 0) main number

  pub strict_auxiliary_unique : (t : Layout) (r q : Answer) (rs qs : List (List ℕ))
      → StrictAuxiliaryOutcome t z w rects vy vu vv y u v m r rs → StrictAuxiliaryOutcome t z w rects vy vu vv y u v m q qs
      → (r ≡ q) × (rs ≡ qs)
  strict_auxiliary_unique t = outcome_unique (λ (n : ℕ). answer_of n 0) (auxiliary t) number

  -- ---- a refused call leaves the planes and the map as they were

  pub strict_main_refused_kept : {r : Answer} {rs : List (List ℕ)} → StrictMainOutcome z w rects vy vu vv y u v m r rs → (r.number ≡ 0 → ⊥) → rs ≡ y ∷ u ∷ v ∷ m ∷ []
  strict_main_refused_kept o some = o.buffers ∙ sym (main_left z w rects vy vu vv y u v m (λ e. some (ap (λ (a : Answer). a.number) o.answer ∙ e)))

  pub strict_auxiliary_refused_kept : (t : Layout) {r : Answer} {rs : List (List ℕ)} → StrictAuxiliaryOutcome t z w rects vy vu vv y u v m r rs → (r.number ≡ 0 → ⊥)
      → rs ≡ y ∷ u ∷ v ∷ m ∷ []
  strict_auxiliary_refused_kept t o some = o.buffers ∙ sym (auxiliary_left z w rects vy vu vv y u v m t (λ e. some (ap (λ (a : Answer). a.number) o.answer ∙ e)))

  -- ---- of a sound list the strict call is the clipping call, refusals included

  numbers : unsound z rects ≡ false → number ≡ lent_map_number_of z w rects vy vu vv y u v m
  numbers sound = strict_same z w rects (length y) (length u) (length v) (length m) (length vy) (length vu) (length vv) sound

  pub sound_main_same : unsound z rects ≡ false → {r : Answer} {rs : List (List ℕ)}
      → StrictMainOutcome z w rects vy vu vv y u v m r rs ↔ MapMainOutcome z w rects vy vu vv y u v m r rs
  sound_main_same sound = (renumbered 0 main (numbers sound), renumbered 0 main (sym (numbers sound)))

  pub sound_auxiliary_same : (t : Layout) → unsound z rects ≡ false → {r : Answer} {rs : List (List ℕ)}
      → StrictAuxiliaryOutcome t z w rects vy vu vv y u v m r rs ↔ MapAuxiliaryOutcome t z w rects vy vu vv y u v m r rs
  sound_auxiliary_same t sound = (renumbered 0 (auxiliary t) (numbers sound), renumbered 0 (auxiliary t) (sym (numbers sound)))

  -- ---- an accepted strict call is the clipping call: the same answer, the same bytes of the planes and of the map

  -- what was accepted is sound
  was_sound : {r : Answer} → r ≡ answer_of number 0 → r.number ≡ 0 → unsound z rects ≡ false
  was_sound is none =
      accepted_sound z w rects (length y) (length u) (length v) (length m) (length vy) (length vu) (length vv) (sym (ap (λ (a : Answer). a.number) is) ∙ none)

  pub strict_main_same : {r : Answer} {rs : List (List ℕ)} → StrictMainOutcome z w rects vy vu vv y u v m r rs → r.number ≡ 0
      → MapMainOutcome z w rects vy vu vv y u v m r rs
  strict_main_same o none = (sound_main_same (was_sound o.answer none)).0 o

  pub strict_auxiliary_same : (t : Layout) {r : Answer} {rs : List (List ℕ)} → StrictAuxiliaryOutcome t z w rects vy vu vv y u v m r rs → r.number ≡ 0
      → MapAuxiliaryOutcome t z w rects vy vu vv y u v m r rs
  strict_auxiliary_same t o none = (sound_auxiliary_same t (was_sound o.answer none)).0 o
