-- The map is what the list of accepted calls says, to the last byte, and what its numbers mean of that list. Assumes nothing.
use Prim.Native.Nat.{ℕ, ◌*◌, ◌≤◌}
use native.Mathlib.Omega.{arith}
use mathlib.Core.Path.{◌≡◌, refl, sym, ap, ◌∙◌}
use mathlib.Core.Bool.{Bool, true, false, cond, true≢false, ◌&&◌}
use mathlib.Core.Logic.{◌⊎◌, inl, inr, ◌↔◌, ⊎_elim}
use mathlib.Core.List.{List, [], ◌∷◌, ◌++◌}
use lib.Dec.{eqb}
use lib.ListN.{length}
use borrow.Author.Tests.{eq-eqb, eqb-true, ne_eqb}
use Rattle.lent.specs.Paint.{whole}
use Rattle.lent.specs.Samples.{sample}
use Rattle.lent.proofs.Bools.{cond_same}
use Rattle.lent.proofs.Painted.{painted_at, painted_ext, painted-painted}
use Rattle.picture.specs.declared.Size.{Size}
use Rattle.map.specs.Map.{across_of, down_of, map_of}
use Rattle.map_apply.specs.Blocks.{Call, marked, completed, after, map_after}
use Rattle.map_law.specs.History.{says, Lived, Unmarked, Uncompleted, Completes, MainSince, CompleteSince}
use Rattle.map_law.specs.History.Lived.{made, next}

-- one call more
pub says_more : (z : Size) (s : ℕ → ℕ → ℕ) (calls : List Call) (c : Call) (i j : ℕ) → after z c (says z s calls) i j ≡ says z s (calls ++ (c ∷ [])) i j
says_more z s [] c i j = refl
says_more z s (d ∷ calls) c i j = says_more z (after z d s) calls c i j

-- "The map equals what the list of accepted calls since the picture was made says": every byte of its buffer
module _ (z : Size) (s : ℕ → ℕ → ℕ) (m₀ : List ℕ) (fits : down_of z * across_of z ≤ length m₀) where
  pub map_says : {calls : List Call} {m : List ℕ} → Lived z s m₀ calls m → m ≡ map_of z (says z s calls) m₀
  unfolding map_after sample
  map_says made = refl
  map_says (next calls m c before) =
      let was = map_says before in
      ap (map_after z c) was
      ∙ painted-painted (across_of z) (down_of z) whole whole (says z s calls) _ m₀
      ∙ painted_ext (across_of z) (down_of z) _ _ _ _ m₀ (λ i j hi hj. refl)
      (λ i j hi hj e. ap (λ (k : ℕ). cond (marked z c i j) 1 (cond (completed z c i j && eqb k 1) 2 k)) (painted_at (across_of z) (down_of z) whole (says z s calls) m₀ i j hi hj fits)
      ∙ says_more z s calls c i j)

-- ---- one call, by its two tests

module _ (a b : Bool) (n : ℕ) where
  abbrev turned : ℕ
  turned = cond a 1 (cond (b && eqb n 1) 2 n)

turned_kept : (a b : Bool) (n k : ℕ) → (k ≡ 1 → ⊥) → (k ≡ 2 → ⊥) → turned a b n ≡ k → (a ≡ false) × (n ≡ k)
turned_kept true b n k f g e = absurd (f (sym e))
turned_kept false false n k f g e = (refl, e)
turned_kept false true n k f g e = go (eqb n 1) e
  where
    go : (t : Bool) → cond t 2 n ≡ k → (false ≡ false) × (n ≡ k)
    go true e = absurd (g (sym e))
    go false e = (refl, e)

turned_1 : (a b : Bool) (n : ℕ) → turned a b n ≡ 1 → (a ≡ true) ⊎ ((a ≡ false) × (n ≡ 1) × (b ≡ false))
turned_1 true b n e = inl refl
turned_1 false false n e = inr (refl, e, refl)
turned_1 false true n e = go (eqb n 1) refl e
  where
    go : (t : Bool) → eqb n 1 ≡ t → cond t 2 n ≡ 1 → (false ≡ true) ⊎ ((false ≡ false) × (n ≡ 1) × (true ≡ false))
    go true q e = absurd (omega arith)
    go false q e = absurd (true≢false (sym (eq-eqb n 1 e) ∙ q))

turned_2 : (a b : Bool) (n : ℕ) → turned a b n ≡ 2 → (a ≡ false) × ((n ≡ 2) ⊎ ((n ≡ 1) × (b ≡ true)))
turned_2 true b n e = absurd (omega arith)
turned_2 false false n e = (refl, inl e)
turned_2 false true n e = go (eqb n 1) refl e
  where
    go : (t : Bool) → eqb n 1 ≡ t → cond t 2 n ≡ 2 → (false ≡ false) × ((n ≡ 2) ⊎ ((n ≡ 1) × (true ≡ true)))
    go true q e = (refl, inr (eqb-true n 1 q, refl))
    go false q e = (refl, inl e)

-- a number that is not 1 stays where the call does not mark
kept : (b : Bool) (k : ℕ) → (k ≡ 1 → ⊥) → cond (b && eqb k 1) 2 k ≡ k
kept true k f = rw (ne_eqb k 1 f)
kept false k f = refl

-- ---- what the numbers mean of the list

module _ (z : Size) (i j : ℕ) where
  stays : (k : ℕ) → (k ≡ 1 → ⊥) → (s : ℕ → ℕ → ℕ) (calls : List Call) → s i j ≡ k → Unmarked z i j calls → says z s calls i j ≡ k
  stays k f s [] e h = e
  stays k f s (c ∷ calls) e h = stays k f (after z c s) calls (rw (h.0, e) (kept (completed z c i j) k f)) h.1

  -- 0, and anything else that is neither 1 nor 2: it was that, and no call marks the block
  unmarked : (k : ℕ) → (k ≡ 1 → ⊥) → (k ≡ 2 → ⊥) → (s : ℕ → ℕ → ℕ) (calls : List Call) → says z s calls i j ≡ k → (s i j ≡ k) × Unmarked z i j calls
  unmarked k f g s [] e = (e, tt)
  unmarked k f g s (c ∷ calls) e =
      let was = unmarked k f g (after z c s) calls e in
      let one = turned_kept (marked z c i j) (completed z c i j) (s i j) k f g was.0 in
      (one.1, (one.0, was.1))

  pub says_kept_exactly : (s : ℕ → ℕ → ℕ) (calls : List Call) (n : ℕ) → (n ≡ 1 → ⊥) → (n ≡ 2 → ⊥) → (says z s calls i j ≡ n) ↔ ((s i j ≡ n) × Unmarked z i j calls)
  says_kept_exactly s calls n f g = (unmarked n f g s calls, λ h. stays n f s calls h.0 h.1)

  -- 0: "never had a main view"
  pub says_0_exactly : (s : ℕ → ℕ → ℕ) (calls : List Call) → (says z s calls i j ≡ 0) ↔ ((s i j ≡ 0) × Unmarked z i j calls)
  says_0_exactly s calls = says_kept_exactly s calls 0 (λ e. omega arith) (λ e. omega arith)

  -- 1: "main since the last auxiliary"
  since : (s : ℕ → ℕ → ℕ) (calls : List Call) → says z s calls i j ≡ 1 → ((s i j ≡ 1) × Uncompleted z i j calls) ⊎ MainSince z i j calls
  since s [] e = inl (e, tt)
  since s (c ∷ calls) e =
      ⊎_elim
      (λ f. ⊎_elim (λ m. inr (inl (m, f.1))) (λ n. inl (n.1, (n.2, f.1))) (turned_1 (marked z c i j) (completed z c i j) (s i j) f.0))
      (λ f. inr (inr f))
      (since (after z c s) calls e)

  keeps : (s : ℕ → ℕ → ℕ) (calls : List Call) → s i j ≡ 1 → Uncompleted z i j calls → says z s calls i j ≡ 1
  keeps s [] e f = e
  keeps s (c ∷ calls) e f = keeps (after z c s) calls (rw (f.0, e) (cond_same (marked z c i j) 1)) f.1

  was : (s : ℕ → ℕ → ℕ) (calls : List Call) → MainSince z i j calls → says z s calls i j ≡ 1
  was s [] x' = elim x' [ ]
  was s (c ∷ calls) (inl h) = keeps (after z c s) calls (rw h.0) h.1
  was s (c ∷ calls) (inr h) = was (after z c s) calls h

  pub says_1_exactly : (s : ℕ → ℕ → ℕ) (calls : List Call) → (says z s calls i j ≡ 1) ↔ (((s i j ≡ 1) × Uncompleted z i j calls) ⊎ MainSince z i j calls)
  says_1_exactly s calls = (since s calls, ⊎_elim (λ h. keeps s calls h.0 h.1) (was s calls))

  -- 2: complete, and no main view took chroma of the block since
  complete : (s : ℕ → ℕ → ℕ) (calls : List Call) → says z s calls i j ≡ 2
      → ((s i j ≡ 2) × Unmarked z i j calls) ⊎ (((s i j ≡ 1) × Unmarked z i j calls × Completes z i j calls) ⊎ CompleteSince z i j calls)
  complete s [] e = inl (e, tt)
  complete s (c ∷ calls) e =
      ⊎_elim
      (λ f. let g = turned_2 (marked z c i j) (completed z c i j) (s i j) f.0 in
      ⊎_elim (λ n. inl (n, (g.0, f.1))) (λ n. inr (inl (n.0, (g.0, f.1), inl n.1))) g.1)
      (⊎_elim
      (λ f. ⊎_elim (λ m. inr (inr (inl (m, f.1, f.2)))) (λ n. inr (inl (n.1, (n.0, f.1), inr f.2)))
      (turned_1 (marked z c i j) (completed z c i j) (s i j) f.0))
      (λ f. inr (inr (inr f))))
      (complete (after z c s) calls e)

  completes : (s : ℕ → ℕ → ℕ) (calls : List Call) → s i j ≡ 1 → Unmarked z i j calls → Completes z i j calls → says z s calls i j ≡ 2
  completes s [] e f h = elim h [ ]
  completes s (c ∷ calls) e f h = go (completed z c i j) refl (completes (after z c s) calls) h
    where
      go : (t : Bool) → completed z c i j ≡ t → (after z c s i j ≡ 1 → Unmarked z i j calls → Completes z i j calls → says z (after z c s) calls i j ≡ 2)
          → (completed z c i j ≡ true) ⊎ Completes z i j calls → says z (after z c s) calls i j ≡ 2
      go true q more h = stays 2 (λ k. omega arith) (after z c s) calls (rw (f.0, q, e)) f.1
      go false q more (inl h) = absurd (true≢false (sym h ∙ q))
      go false q more (inr h) = more (rw (f.0, q, e)) f.1 h

  completed_since : (s : ℕ → ℕ → ℕ) (calls : List Call) → CompleteSince z i j calls → says z s calls i j ≡ 2
  completed_since s [] x' = elim x' [ ]
  completed_since s (c ∷ calls) (inl h) = completes (after z c s) calls (rw h.0) h.1 h.2
  completed_since s (c ∷ calls) (inr h) = completed_since (after z c s) calls h

  pub says_2_exactly : (s : ℕ → ℕ → ℕ) (calls : List Call)
      → (says z s calls i j ≡ 2) ↔ (((s i j ≡ 2) × Unmarked z i j calls) ⊎ (((s i j ≡ 1) × Unmarked z i j calls × Completes z i j calls) ⊎ CompleteSince z i j calls))
  says_2_exactly s calls =
      (complete s calls, ⊎_elim (λ h. stays 2 (λ k. omega arith) s calls h.0 h.1) (⊎_elim (λ h. completes s calls h.0 h.1 h.2) (completed_since s calls)))
