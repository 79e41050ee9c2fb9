-- What a caller leans on: each call ends in one way; a refusal leaves the map and the planes as they were; bytes after the map never change; a
-- main view sets 1 over anything; an auxiliary view leaves 0; the same call twice is the call once; an empty list changes nothing; order and
-- repetition have no effect. Assumes nothing.
use Prim.Native.Nat.{ℕ, ◌*◌, ◌<◌, ◌≤◌}
use mathlib.Core.Path.{◌≡◌, refl, sym, ap, ◌∙◌}
use mathlib.Core.Bool.{Bool, true, false, cond, ◌&&◌}
use mathlib.Core.List.{List, [], ◌∷◌, ◌++◌}
use lib.Dec.{eqb}
use lib.ListN.{length, get_or}
use Rattle.lent.specs.declared.Answer.{Answer}
use Rattle.lent.specs.Outcome.{answer_of}
use Rattle.lent.specs.Paint.{whole}
use Rattle.lent.specs.Samples.{sample}
use Rattle.lent.proofs.Bools.{cond-true}
use Rattle.lent.proofs.Ends.{lent_refused}
use Rattle.lent.proofs.Outcome.{outcome_unique}
use Rattle.lent.proofs.Painted.{length_painted, painted_at, painted_ext, painted-painted}
use Rattle.picture.specs.declared.Size.{Size}
use Rattle.view.specs.declared.View.{View}
use Rattle.layout.specs.declared.Layout.{Layout}
use Rattle.rects.proofs.Rects.{AllIn, list_same, list_empty}
use Rattle.map.specs.Map.{across_of, down_of, held_of}
use Rattle.map.proofs.Sizes.{map_past_kept}
use Rattle.map_apply.specs.Blocks.{Call, main_marks, auxiliary_completes, marked, completed, after, map_after}
use Rattle.map_apply.specs.Blocks.Call.{Main, Auxiliary}
use Rattle.map_apply.specs.Boxes.{main_limits_of, auxiliary_limits_of, in_blocks}
use Rattle.map_apply.specs.Calls.{lent_map_number_of, map_main_buffers_of, map_auxiliary_buffers_of, MapMainOutcome, MapAuxiliaryOutcome}
use Rattle.map_apply.proofs.Boxes.{map_marked, map_completed}
use Rattle.map_apply.proofs.Ends.{main_kept, auxiliary_kept}

-- ---- how a call ends

module _ (z : Size) (w : View) (rects vy vu vv y u v m : List ℕ) where
  abbrev number : ℕ
  number = lent_map_number_of z w rects vy vu vv y u v m

  pub main_unique : (r q : Answer) (rs qs : List (List ℕ)) → MapMainOutcome z w rects vy vu vv y u v m r rs → MapMainOutcome z w rects vy vu vv y u v m q qs
      → (r ≡ q) × (rs ≡ qs)
  main_unique = outcome_unique (λ (n : ℕ). answer_of n 0) (λ n. map_main_buffers_of n z w rects vy vu vv y u v m) number

  pub auxiliary_unique : (t : Layout) (r q : Answer) (rs qs : List (List ℕ)) → MapAuxiliaryOutcome t z w rects vy vu vv y u v m r rs → MapAuxiliaryOutcome t z w rects vy vu vv y u v m q qs
      → (r ≡ q) × (rs ≡ qs)
  auxiliary_unique t = outcome_unique (λ (n : ℕ). answer_of n 0) (λ n. map_auxiliary_buffers_of n t z w rects vy vu vv y u v m) number

  -- a refused call leaves the map as it was, and the planes
  pub main_refused_kept : (r : Answer) (rs : List (List ℕ)) → MapMainOutcome z w rects vy vu vv y u v m r rs → (r.number ≡ 0 → ⊥) → rs ≡ y ∷ u ∷ v ∷ m ∷ []
  main_refused_kept r rs o f =
      let some : number ≡ 0 → ⊥ = λ e. f (ap (λ (a : Answer). a.number) o.answer ∙ e) in
      o.buffers ∙ sym (λ i. main_kept z w rects vy vu vv y u v number some i ++ (lent_refused number m (map_after z (Main w rects) m) some i ∷ []))

  pub auxiliary_refused_kept : (t : Layout) (r : Answer) (rs : List (List ℕ)) → MapAuxiliaryOutcome t z w rects vy vu vv y u v m r rs → (r.number ≡ 0 → ⊥) → rs ≡ y ∷ u ∷ v ∷ m ∷ []
  auxiliary_refused_kept t r rs o f =
      let some : number ≡ 0 → ⊥ = λ e. f (ap (λ (a : Answer). a.number) o.answer ∙ e) in
      o.buffers ∙ sym (λ i. auxiliary_kept z w rects vy vu vv y u v number some t i ++ (lent_refused number m (map_after z (Auxiliary t w rects) m) some i ∷ []))

-- ---- the map after an accepted call

module _ (z : Size) (c : Call) (m : List ℕ) where
  pub map_length : length (map_after z c m) ≡ length m
  unfolding map_after
  map_length = length_painted _ _ _ _ m

  -- bytes after the map stay
  pub map_kept_past : (k : ℕ) → down_of z * across_of z ≤ k → k < length m → get_or (map_after z c m) k 0 ≡ get_or m k 0
  unfolding map_after
  map_kept_past k past there = map_past_kept 0 z (after z c (held_of z m)) m k past there

  module _ (fits : down_of z * across_of z ≤ length m) where
    -- what a block is then
    pub held_after : (i j : ℕ) → i < down_of z → j < across_of z → held_of z (map_after z c m) i j ≡ after z c (held_of z m) i j
    unfolding map_after sample
    held_after i j hi hj = painted_at (across_of z) (down_of z) whole (after z c (held_of z m)) m i j hi hj fits

-- a call once more, by its two tests
twice : (a b : Bool) (n : ℕ)
    → let was = cond {A = ℕ} a 1 (cond (b && eqb n 1) 2 n) in
    cond a 1 (cond (b && eqb was 1) 2 was) ≡ was
twice true b n = refl
twice false false n = refl
twice false true n = go (eqb n 1) refl
  where
    go : (t : Bool) → eqb n 1 ≡ t → cond (eqb (cond t 2 n) 1) 2 (cond t 2 n) ≡ cond t 2 n
    go true e = refl
    go false e = rw e

-- the same call twice is the call once
pub same_call_twice : (z : Size) (c : Call) (m : List ℕ) → down_of z * across_of z ≤ length m → map_after z c (map_after z c m) ≡ map_after z c m
unfolding map_after
same_call_twice z c m fits =
    painted-painted (across_of z) (down_of z) whole whole (after z c (held_of z m)) (after z c (held_of z (map_after z c m))) m
    ∙ painted_ext _ _ _ _ _ _ m (λ i j hi hj. refl)
    (λ i j hi hj e. ap (λ (n : ℕ). cond (marked z c i j) 1 (cond (completed z c i j && eqb n 1) 2 n)) (held_after z c m fits i j hi hj)
    ∙ twice (marked z c i j) (completed z c i j) (held_of z m i j))

module _ (z : Size) (w : View) (m : List ℕ) (fits : down_of z * across_of z ≤ length m) where
  -- a main view sets 1, whatever the block was: over 2 too
  pub main_over_two : (rects : List ℕ) (i j : ℕ) → i < down_of z → j < across_of z → main_marks z w rects i j ≡ true → held_of z (map_after z (Main w rects) m) i j ≡ 1
  main_over_two rects i j hi hj e = held_after z (Main w rects) m fits i j hi hj ∙ cond-true _ _ _ e

  -- an auxiliary view leaves 0, whatever it takes
  pub auxiliary_over_zero : (t : Layout) (rects : List ℕ) (i j : ℕ) → i < down_of z → j < across_of z → held_of z m i j ≡ 0 → held_of z (map_after z (Auxiliary t w rects) m) i j ≡ 0
  auxiliary_over_zero t rects i j hi hj e =
      held_after z (Auxiliary t w rects) m fits i j hi hj
      ∙ ap (λ (n : ℕ). cond (auxiliary_completes t z w rects i j && eqb n 1) 2 n) e
      ∙ zero (auxiliary_completes t z w rects i j)
    where
      zero : (b : Bool) → cond {A = ℕ} (b && false) 2 0 ≡ 0
      zero true = refl
      zero false = refl

  -- an empty list changes nothing
  pub main_empty_list : map_after z (Main w []) m ≡ m
  main_empty_list = sym (map_marked z w [] m fits) ∙ sym (list_empty _ _ (in_blocks z (main_limits_of w)) _ m)

  pub auxiliary_empty_list : (t : Layout) → map_after z (Auxiliary t w []) m ≡ m
  auxiliary_empty_list t = sym (map_completed z w [] m fits t) ∙ sym (list_empty _ _ (in_blocks z (auxiliary_limits_of t w)) _ m)

  -- order and repetition have no effect
  pub main_same_list : (ps qs : List ℕ) → AllIn ps qs → AllIn qs ps → map_after z (Main w ps) m ≡ map_after z (Main w qs) m
  main_same_list ps qs f g = sym (map_marked z w ps m fits) ∙ list_same _ _ (in_blocks z (main_limits_of w)) _ m ps qs f g ∙ map_marked z w qs m fits

  pub auxiliary_same_list : (t : Layout) (ps qs : List ℕ) → AllIn ps qs → AllIn qs ps → map_after z (Auxiliary t w ps) m ≡ map_after z (Auxiliary t w qs) m
  auxiliary_same_list t ps qs f g =
      sym (map_completed z w ps m fits t) ∙ list_same _ _ (in_blocks z (auxiliary_limits_of t w)) _ m ps qs f g ∙ map_completed z w qs m fits t
