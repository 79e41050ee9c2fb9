-- How the calls end that are lent the map, from how the call without it ended: a short map is refused with nothing run; a refusal is passed on and
-- leaves the map; where the planes are written the map is what the code made of it. Assumes nothing.
use Prim.Native.Nat.{ℕ}
use native.Mathlib.Omega.{arith}
use mathlib.Core.Path.{◌≡◌, sym}
use mathlib.Core.Bool.{true, false}
use mathlib.Core.List.{List, [], ◌∷◌, ◌++◌}
use lib.ListN.{length}
use Rattle.lent.specs.declared.Answer.{Answer}
use Rattle.lent.specs.Outcome.{Outcome, answer_of, lent_after}
use Rattle.lent.proofs.Ends.{answer_none, lent_refused}
use Rattle.picture.specs.declared.Size.{Size}
use Rattle.view.specs.declared.View.{View}
use Rattle.layout.specs.declared.Chroma.TheVariants.{CU, CV}
use Rattle.layout.specs.declared.Layout.{Layout}
use Rattle.rects.specs.Number.{lent_number_of}
use Rattle.apply_main.specs.Main.{luma_after, chroma_after, main_buffers_of}
use Rattle.apply_auxiliary.specs.Auxiliary.{auxiliary_after, auxiliary_buffers_of}
use Rattle.map.specs.Map.{map_short}
use Rattle.map.proofs.Joined.{renumbered, joined_passed, joined_set}
use Rattle.map_apply.specs.Calls.{lent_map_number_of}
use Rattle.map_apply.proofs.Number.{map_short_1, map_number}

-- ---- a number that is not 0 leaves the planes

module _ (z : Size) (w : View) (rects vy vu vv y u v : List ℕ) (n : ℕ) (some : n ≡ 0 → ⊥) where
  pub main_kept : y ∷ u ∷ v ∷ [] ≡ main_buffers_of n z w rects vy vu vv y u v
  main_kept = λ i. lent_refused n y (luma_after z w rects vy y) some i ∷ lent_refused n u (chroma_after z w rects vu u) some i ∷ lent_refused n v (chroma_after z w rects vv v) some i ∷ []

  pub auxiliary_kept : (t : Layout) → y ∷ u ∷ v ∷ [] ≡ auxiliary_buffers_of n t z w rects vy vu vv y u v
  auxiliary_kept t = λ i. y ∷ lent_refused n u (auxiliary_after t CU z w rects vy vu vv u) some i ∷ lent_refused n v (auxiliary_after t CV z w rects vy vu vv v) some i ∷ []

-- ---- either call: `planes` are those of the call without the map, by its number, and `after` is the map after an accepted call

module _ (z : Size) (w : View) (rects vy vu vv y u v m : List ℕ) (planes : ℕ → List (List ℕ)) (after : List ℕ) where
  abbrev number : ℕ
  number = lent_map_number_of z w rects vy vu vv y u v m

  -- the map is short: 1, and nothing is run
  pub ends_short : map_short z (length m) ≡ true → ((n : ℕ) → (n ≡ 0 → ⊥) → y ∷ u ∷ v ∷ [] ≡ planes n)
      → Outcome (answer_of number 0) (planes number ++ (lent_after number m after ∷ [])) (record { number = 1; count = 0 }) (y ∷ u ∷ v ∷ m ∷ [])
  ends_short short kept =
      let is = map_short_1 z w (length y) (length u) (length v) (length m) (length rects) (length vy) (length vu) (length vv) short in
      let some : number ≡ 0 → ⊥ = λ e. omega arith in
      record { answer = answer_none (sym is); buffers = λ i. kept number some i ++ (lent_refused number m after some i ∷ []) }

  module _ (long : map_short z (length m) ≡ false) {r : Answer} {rs : List (List ℕ)} (call : let n = lent_number_of z w rects vy vu vv y u v in Outcome (answer_of n 0) (planes n) r rs) where
    -- that call, under the number of this one
    run : Outcome (answer_of number 0) (planes number) r rs
    run = renumbered 0 planes (sym (map_number z w (length y) (length u) (length v) (length m) (length rects) (length vy) (length vu) (length vv) long)) call

    pub ends_passed : (r.number ≡ 0 → ⊥) → Outcome (answer_of number 0) (planes number ++ (lent_after number m after ∷ [])) r (rs ++ (m ∷ []))
    ends_passed some = joined_passed number 0 m after run some

    pub ends_done : {m' : List ℕ} → r.number ≡ 0 → m' ≡ after → Outcome (answer_of number 0) (planes number ++ (lent_after number m after ∷ [])) r (rs ++ (m' ∷ []))
    ends_done none is = joined_set number 0 m after run none is
