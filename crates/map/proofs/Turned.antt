-- A writer that reads what it writes: a byte by itself is turned; and where some blocks were turned already, turning more of them is
-- painting from the map as it was before all, so that the loops over a list go by the laws of `painted` as they stand.
-- Assumes nothing.
use Prim.Native.Nat.{ℕ, ◌+◌, ◌*◌, ◌≤◌}
use native.Mathlib.Omega.{arith}
use mathlib.Core.Path.{◌≡◌, refl, ap, ◌∙◌}
use mathlib.Core.Bool.{Bool, true, false, cond}
use mathlib.Core.List.{List}
use lib.Dec.{eqb}
use lib.ListN.{length, get_or}
use borrow.Author.Tests.{eqb-true, eq-eqb}
use Rattle.lent.specs.Paint.{paint, painted, within}
use Rattle.lent.specs.Samples.{sample}
use Rattle.lent.proofs.Bools.{same_test}
use Rattle.lent.proofs.ByPart.{so_far_past, so_far_over}
use Rattle.lent.proofs.Paint.{paint_ext}
use Rattle.lent.proofs.Painted.{painted_at, painted_ext}
use Rattle.lent.proofs.SoFar.{SoFar}
use Rattle.lent.proofs.Taken.{within_facts, within_holds}
use Rattle.map.specs.Map.{turned_of, turned_at}

-- the place i alone, whether there is one or not
pub turn_place : (d : List ℕ) {was ys : List ℕ} (i : ℕ) → SoFar (λ k. turned_of (get_or d k 0)) d was i
    → ys ≡ paint (λ k. eqb k i) (λ k. turned_of (get_or was k 0)) was
    → SoFar (λ k. turned_of (get_or d k 0)) d ys (i + 1)
turn_place d {was} i f back =
    so_far_over _ d i i (i + 1) (λ k. turned_of (get_or d k 0)) (omega arith) (omega arith) f
    (back
    ∙ paint_ext (λ k. eqb k i) (within i (i + 1)) _ _ was (λ k h. place k)
    (λ k h e. let at = eqb-true k i e in ap turned_of (so_far_past _ d i k f (omega arith) (omega (arith, f.0)))))
    (λ k ge lt. refl)
  where
    place : (k : ℕ) → eqb k i ≡ within i (i + 1) k
    place k =
        same_test _ _
        (λ e. let at = eqb-true k i e in within_holds i (i + 1) k (omega arith) (omega arith))
        (λ e. let w = within_facts i (i + 1) k e in eq-eqb k i (omega arith))

-- twice is once
twice : (n : ℕ) → turned_of (turned_of n) ≡ turned_of n
twice n = go (eqb n 1) refl
  where
    go : (t : Bool) → eqb n 1 ≡ t → turned_of (cond t 2 n) ≡ cond t 2 n
    go true e = refl
    go false e = rw e

turned_cond : (t : Bool) (n : ℕ) → turned_of (cond t (turned_of n) n) ≡ turned_of n
turned_cond true n = twice n
turned_cond false n = refl

pub turned_source : (w h : ℕ) (t t' : ℕ → ℕ → Bool) (m₀ m : List ℕ) → h * w ≤ length m₀ → m ≡ painted w h t (turned_at m₀ w) m₀
    → painted w h t' (turned_at m w) m ≡ painted w h t' (turned_at m₀ w) m
unfolding turned_at sample
turned_source w h t t' m₀ m fits is =
    painted_ext w h t' t' _ _ m (λ r c hr hc. refl)
    (λ r c hr hc e. ap (λ (l : List ℕ). turned_of (sample l w r c)) is
    ∙ ap turned_of (painted_at w h t (turned_at m₀ w) m₀ r c hr hc fits)
    ∙ turned_cond (t r c) (sample m₀ w r c))
