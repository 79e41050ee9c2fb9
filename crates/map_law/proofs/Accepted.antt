-- The list of accepted calls grows as the calls' contracts say: a call that makes a picture starts it, an apply call that answers 0 is its
-- next, and a refused call is not in it, since it leaves the map. Assumes nothing.
use Prim.Native.Nat.{ℕ, ◌*◌, ◌≤◌}
use mathlib.Core.Path.{◌≡◌, sym, ap, ◌∙◌, subst}
use mathlib.Core.List.{List, [], ◌∷◌, ◌++◌}
use lib.ListN.{length, get_or}
use Rattle.lent.specs.declared.Answer.{Answer}
use Rattle.lent.specs.Outcome.{Outcome, answer_of, lent_after}
use Rattle.lent.proofs.Ends.{lent_done}
use Rattle.lent.proofs.Refusal.{refusal_none}
use Rattle.colour.specs.declared.Matrix.{Matrix}
use Rattle.picture.specs.declared.Size.{Size}
use Rattle.from_rgba.specs.declared.edges.Edge.{Edge}
use Rattle.from_rgba.specs.FromRgba.{rgba_short}
use Rattle.view.specs.declared.View.{View}
use Rattle.layout.specs.declared.Layout.{Layout}
use Rattle.map.specs.Map.{across_of, down_of, map_of, picture_short}
use Rattle.map_picture.specs.Made.{map_new_number_of, map_from_number_of, MapNewOutcome, MapFromRgbaOutcome}
use Rattle.map_apply.specs.Blocks.{Call, map_after}
use Rattle.map_apply.specs.Blocks.Call.{Main, Auxiliary}
use Rattle.map_apply.specs.Calls.{lent_map_number_of, MapMainOutcome, MapAuxiliaryOutcome}
use Rattle.map.proofs.Sizes.{picture_fit_exactly}
use Rattle.map_apply.proofs.Laws.{main_refused_kept, auxiliary_refused_kept}
use Rattle.map_law.specs.History.{Lived}
use Rattle.map_law.specs.History.Lived.{made, next}

-- the last of a call's four buffers
abbrev fourth : List (List ℕ) → List ℕ
fourth bs = get_or bs 3 []

-- what a call of the number n leaves in its map, where it answers 0
map-done : (n : ℕ) (m new y u v : List ℕ) {r : Answer} {y' u' v' m' : List ℕ}
    → Outcome (answer_of n 0) (y ∷ u ∷ v ∷ lent_after n m new ∷ []) r (y' ∷ u' ∷ v' ∷ m' ∷ []) → r.number ≡ 0 → m' ≡ new
map-done n m new y u v ends zero = ap fourth ends.buffers ∙ sym (lent_done n m new (sym (ap (λ (a : Answer). a.number) ends.answer) ∙ zero))

-- ---- the calls that make a picture: the list starts, and the map is long enough for what it says

-- a call that makes a picture whose blocks are s
begun : (n : ℕ) (z : Size) (s : ℕ → ℕ → ℕ) (m₀ y u v : List ℕ) {r : Answer} {y' u' v' m : List ℕ}
    → Outcome (answer_of n 0) (y ∷ u ∷ v ∷ lent_after n m₀ (map_of z s m₀) ∷ []) r (y' ∷ u' ∷ v' ∷ m ∷ []) → r.number ≡ 0 → Lived z s m₀ [] m
begun n z s m₀ y u v ends zero = subst (λ (l : List ℕ). Lived z s m₀ [] l) (sym (map-done n m₀ (map_of z s m₀) y u v ends zero)) made

module _ (z : Size) (y u v m₀ : List ℕ) {r : Answer} {y' u' v' m : List ℕ} (zero : r.number ≡ 0) where
  pub new_made : MapNewOutcome z y u v m₀ r (y' ∷ u' ∷ v' ∷ m ∷ []) → Lived z (λ i j. 0) m₀ [] m
  new_made ends = begun (map_new_number_of z (length y) (length u) (length v) (length m₀)) z (λ i j. 0) m₀ _ _ _ ends zero

  pub new_fits : MapNewOutcome z y u v m₀ r (y' ∷ u' ∷ v' ∷ m ∷ []) → down_of z * across_of z ≤ length m₀
  new_fits ends =
      ((picture_fit_exactly z (length y) (length u) (length v) (length m₀)).0
      ((refusal_none ((picture_short z (length y) (length u) (length v) (length m₀), 1) ∷ []) tt).0 (sym (ap (λ (a : Answer). a.number) ends.answer) ∙ zero)).0).map

  module _ (x : Matrix) (e : Edge) (px : List ℕ) (ends : MapFromRgbaOutcome x e px z y u v m₀ r (y' ∷ u' ∷ v' ∷ m ∷ [])) where
    pub from_made : Lived z (λ i j. 2) m₀ [] m
    from_made = begun (map_from_number_of z (length px) (length y) (length u) (length v) (length m₀)) z (λ i j. 2) m₀ _ _ _ ends zero

    pub from_fits : down_of z * across_of z ≤ length m₀
    from_fits =
        ((picture_fit_exactly z (length y) (length u) (length v) (length m₀)).0
        ((refusal_none ((rgba_short z (length px), 2) ∷ (picture_short z (length y) (length u) (length v) (length m₀), 1) ∷ []) tt).0
        (sym (ap (λ (a : Answer). a.number) ends.answer) ∙ zero)).1.0).map

-- ---- the apply calls: each that is accepted is the list's next, and one that is refused leaves the map

-- an apply call c
grown : (n : ℕ) (z : Size) (s : ℕ → ℕ → ℕ) (m₀ m : List ℕ) (calls : List Call) (c : Call) (y u v : List ℕ) {r : Answer} {y' u' v' m' : List ℕ} → Lived z s m₀ calls m
    → Outcome (answer_of n 0) (y ∷ u ∷ v ∷ lent_after n m (map_after z c m) ∷ []) r (y' ∷ u' ∷ v' ∷ m' ∷ []) → r.number ≡ 0 → Lived z s m₀ (calls ++ (c ∷ [])) m'
grown n z s m₀ m calls c y u v lived ends zero =
    subst (λ (l : List ℕ). Lived z s m₀ (calls ++ (c ∷ [])) l) (sym (map-done n m (map_after z c m) y u v ends zero)) (next calls m c lived)

module _ (z : Size) (w : View) (rects vy vu vv y u v m : List ℕ) {r : Answer} {y' u' v' m' : List ℕ} where
  pub main_next : {s : ℕ → ℕ → ℕ} {m₀ : List ℕ} {calls : List Call} → Lived z s m₀ calls m
      → MapMainOutcome z w rects vy vu vv y u v m r (y' ∷ u' ∷ v' ∷ m' ∷ []) → r.number ≡ 0 → Lived z s m₀ (calls ++ (Main w rects ∷ [])) m'
  main_next lived ends zero = grown (lent_map_number_of z w rects vy vu vv y u v m) z _ _ m _ (Main w rects) _ _ _ lived ends zero

  pub main_refused : MapMainOutcome z w rects vy vu vv y u v m r (y' ∷ u' ∷ v' ∷ m' ∷ []) → (r.number ≡ 0 → ⊥) → m' ≡ m
  main_refused ends f = ap fourth (main_refused_kept z w rects vy vu vv y u v m r _ ends f)

  pub auxiliary_next : (t : Layout) {s : ℕ → ℕ → ℕ} {m₀ : List ℕ} {calls : List Call} → Lived z s m₀ calls m
      → MapAuxiliaryOutcome t z w rects vy vu vv y u v m r (y' ∷ u' ∷ v' ∷ m' ∷ []) → r.number ≡ 0 → Lived z s m₀ (calls ++ (Auxiliary t w rects ∷ [])) m'
  auxiliary_next t lived ends zero = grown (lent_map_number_of z w rects vy vu vv y u v m) z _ _ m _ (Auxiliary t w rects) _ _ _ lived ends zero

  pub auxiliary_refused : (t : Layout) → MapAuxiliaryOutcome t z w rects vy vu vv y u v m r (y' ∷ u' ∷ v' ∷ m' ∷ []) → (r.number ≡ 0 → ⊥) → m' ≡ m
  auxiliary_refused t ends f = ap fourth (auxiliary_refused_kept z w rects vy vu vv y u v m t r _ ends f)
