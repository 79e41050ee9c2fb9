-- The first number that a step would give: a split's, else 1 or 7 for the earlier picture and its map. 3 and 4 cannot arise, since the views of a split
-- are as wide as their strides and their planes are whole. No step changes a length.
-- Assumes nothing.
use Prim.Native.Nat.{ℕ, ◌/◌}
use native.Mathlib.Omega.{arith}
use mathlib.Core.Path.{◌≡◌, refl, sym, ap, ◌∙◌}
use mathlib.Core.Bool.{Bool, true, false, cond, ◌||◌, true≢false}
use mathlib.Core.Logic.Iff
use mathlib.Core.Logic.{◌↔◌, and-true}
use mathlib.Core.List.{List, [], ◌∷◌}
use lib.Dec.{eqb}
use lib.ListN.{length}
use borrow.Author.Tests.{eq-eqb, ne_eqb, eqb-true, le-ltb}
use Rattle.lent.specs.Sizes.{too_short, half_up}
use Rattle.lent.proofs.Bools.{cond_same, cond-true, cond-false}
use Rattle.lent.proofs.Exactly.{nor}
use Rattle.lent.proofs.Painted.{length_painted}
use Rattle.lent.proofs.Refusal.{refusal_none}
use Rattle.picture.specs.declared.Size.{Size}
use Rattle.picture.specs.Sizes.{rows_of}
use Rattle.picture.proofs.Sizes.{fit_exactly}
use Rattle.view.specs.View.{narrow, plane_short}
use Rattle.view.proofs.Exactly.{narrow_none}
use Rattle.layout.specs.declared.Way.{Way}
use Rattle.rects.specs.Number.{not_fours}
use Rattle.map.specs.Map.{picture_short}
use Rattle.map.proofs.Sizes.{picture_fit_exactly}
use Rattle.map_apply.specs.Blocks.Call.{Main}
use Rattle.map_apply.specs.Calls.{map_apply_number_of}
use Rattle.map_apply.proofs.Laws.{map_length}
use Rattle.map_apply.proofs.Number.{fours_exactly}
use Rattle.split.specs.declared.number.PlaneLengths.{PlaneLengths}
use Rattle.split_views.specs.Fits.{Room}
use Rattle.split.specs.Split.{Planes, lengths_of, split_wide_of, view_short, split_number_of}
use Rattle.split.proofs.Calls.{wide_enough}
use Rattle.split.proofs.Short.{view_room}
use Rattle.split.proofs.Exactly.{split_0_exactly, small_exactly}
use Rattle.agree_law.specs.Through.{view_of, main_view_of, auxiliary_view_of, with_main, with_main_map, first_of, apply_number_on, through_number_of, earlier_number_of, Lent}
use Rattle.agree_law.specs.Both.{both_number_of}

-- ---- the first of two numbers

pub first_same : (n k k' : ℕ) → (n ≡ 0 → k ≡ k') → first_of n k ≡ first_of n k'
first_same n k k' f = go (eqb n 0) refl
  where
    go : (b : Bool) → eqb n 0 ≡ b → cond (eqb n 0) k n ≡ cond (eqb n 0) k' n
    go true e = ap (λ (j : ℕ). cond (eqb n 0) j n) (f (eqb-true n 0 e))
    go false e = rw e

pub first_zero : (n k : ℕ) → first_of n k ≡ 0 → (n ≡ 0) × (k ≡ 0)
first_zero n k e = go (eqb n 0) refl
  where
    go : (b : Bool) → eqb n 0 ≡ b → (n ≡ 0) × (k ≡ 0)
    go true t = (eqb-true n 0 t, rw t at e)
    go false t = let z : n ≡ 0 = rw t at e in absurd (true≢false (sym (eq-eqb n 0 z) ∙ t))

-- a number that was found is the first, or it is 0 and the next one is
pub first_refused : {n m : ℕ} (k : ℕ) → n ≡ m → (n ≡ 0 → ⊥) → n ≡ first_of m k
first_refused {n} {m} k is f = is ∙ sym (cond-false (eqb m 0) k m (ne_eqb m 0 (λ e. f (is ∙ e))))

pub first_passed : {n m j k : ℕ} → n ≡ m → n ≡ 0 → j ≡ k → j ≡ first_of m k
first_passed {n} {m} {j} {k} is zero then = then ∙ sym (cond-true (eqb m 0) k m (eq-eqb m 0 (sym is ∙ zero)))

-- ---- no step changes a length

pub main_view_lengths : (t : Way) (z : Size) (p m : Planes) → lengths_of (main_view_of t z p m) ≡ lengths_of m
main_view_lengths t z p m = simp length_painted

pub auxiliary_view_lengths : (t : Way) (z : Size) (p a : Planes) → lengths_of (auxiliary_view_of t z p a) ≡ lengths_of a
auxiliary_view_lengths t z p a = simp length_painted

pub with_main_lengths : (t : Way) (z : Size) (rects : List ℕ) (v q : Planes) → lengths_of (with_main t z rects v q) ≡ lengths_of q
with_main_lengths t z rects v q = simp length_painted

pub with_main_map_length : (t : Way) (z : Size) (rects k : List ℕ) → length (with_main_map t z rects k) ≡ length k
with_main_map_length t z rects k = map_length z (Main (view_of t z) rects) k

-- ---- a split's views are accepted

not_narrow : (t : Way) (z : Size) → narrow (view_of t z) ≡ false
not_narrow t z = (narrow_none (view_of t z)).1 (omega arith, omega (arith, (wide_enough t z).fours))

not_short : (t : Way) (z : Size) (n : PlaneLengths) → view_short (split_wide_of t z) z n ≡ false → plane_short (view_of t z) n.y n.u n.v ≡ false
unfolding view_short plane_short
not_short t z n e =
    let half : half_up (rows_of z) ≡ rows_of z / 2 = omega arith in
    ap (λ (h : ℕ). too_short (split_wide_of t z) (rows_of z) n.y || too_short (split_wide_of t z / 2) h n.u || too_short (split_wide_of t z / 2) h n.v) half ∙ e

-- so an apply call of such a view answers 1, 7 or 0
pub apply_plainly : (t : Way) (z : Size) (rects : List ℕ) (v q : Planes) (k : List ℕ) → view_short (split_wide_of t z) z (lengths_of v) ≡ false
    → apply_number_on t z rects v q k ≡ earlier_number_of z (lengths_of q) (length k) (length rects)
unfolding map_apply_number_of earlier_number_of
apply_plainly t z rects v q k long = rw (not_narrow t z, not_short t z (lengths_of v) long)

module _ (t : Way) (z : Size) (rects : List ℕ) (p m a q : Planes) (k : List ℕ) where
  -- the first number that a step would give
  pub through_plainly : through_number_of t z rects p m a q k
      ≡ first_of (split_number_of t z (lengths_of p) (lengths_of m) (lengths_of a)) (earlier_number_of z (lengths_of q) (length k) (length rects))
  unfolding through_number_of
  through_plainly =
      first_same (split_number_of t z (lengths_of p) (lengths_of m) (lengths_of a)) _ _
      (λ none. let long = (nor (view_short (split_wide_of t z) z (lengths_of m)) _).0 ((split_0_exactly t z (lengths_of p) (lengths_of m) (lengths_of a)).0 none).1.1 in
      let main = apply_plainly t z rects (main_view_of t z p m) q k (ap (view_short (split_wide_of t z) z) (main_view_lengths t z p m) ∙ long.0) in
      let auxiliary = apply_plainly t z rects (auxiliary_view_of t z p a) (with_main t z rects (main_view_of t z p m) q) (with_main_map t z rects k) (ap (view_short (split_wide_of t z) z) (auxiliary_view_lengths t z p a) ∙ long.1) in
      (λ i. first_of (main i) ((auxiliary ∙ (λ j. earlier_number_of z (with_main_lengths t z rects (main_view_of t z p m) q j) (with_main_map_length t z rects k j) (length rects))) i))
      ∙ cond_same (eqb (earlier_number_of z (lengths_of q) (length k) (length rects)) 0) _)

-- of the two walks: the views' buffers are as long the second time
pub both_plainly : (t t' : Way) (z : Size) (rects : List ℕ) (p m a q : Planes) (k : List ℕ) (q' : Planes) (k' : List ℕ)
    → let s : Way → ℕ = λ t. split_number_of t z (lengths_of p) (lengths_of m) (lengths_of a) in
    both_number_of t t' z rects p m a q k q' k'
    ≡ first_of (first_of (s t) (earlier_number_of z (lengths_of q) (length k) (length rects))) (first_of (s t') (earlier_number_of z (lengths_of q') (length k') (length rects)))
unfolding both_number_of
both_plainly t t' z rects p m a q k q' k' =
    λ i. first_of (through_plainly t z rects p m a q k i)
    ((through_plainly t' z rects p (main_view_of t z p m) (auxiliary_view_of t z p a) q' k'
    ∙ (λ j. first_of (split_number_of t' z (lengths_of p) (main_view_lengths t z p m j) (auxiliary_view_lengths t z p a j)) (earlier_number_of z (lengths_of q') (length k') (length rects)))) i)

-- ---- 0, exactly when

view_long : (W : ℕ) (z : Size) (n : PlaneLengths) → Room n.y n.u n.v W (rows_of z) → view_short W z n ≡ false
unfolding view_short
view_long W z n f =
    (nor (too_short W (rows_of z) n.y || too_short (W / 2) (rows_of z / 2) n.u) _).1
    ((nor (too_short W (rows_of z) n.y) _).1 (le-ltb n.y _ f.y_room, le-ltb n.u _ f.u_room), le-ltb n.v _ f.v_room)

earlier_0_exactly : (z : Size) (n : PlaneLengths) (nk nr : ℕ) → (earlier_number_of z n nk nr ≡ 0) ↔ ((picture_short z n.y n.u n.v nk ≡ false) × (not_fours nr ≡ false))
unfolding earlier_number_of
earlier_0_exactly z n nk nr = Iff.trans (refusal_none ((picture_short z n.y n.u n.v nk, 1) ∷ (not_fours nr, 7) ∷ []) tt) (Iff.and Iff.rfl and-true)

module _ (t : Way) (z : Size) (rects : List ℕ) (p m a q : Planes) (k : List ℕ) where
  abbrev split_number : ℕ
  split_number = split_number_of t z (lengths_of p) (lengths_of m) (lengths_of a)

  pub lent : first_of split_number (earlier_number_of z (lengths_of q) (length k) (length rects)) ≡ 0 → Lent t z rects p m a q k
  lent none =
      let zero = first_zero split_number _ none in
      let f = (split_0_exactly t z (lengths_of p) (lengths_of m) (lengths_of a)).0 zero.0 in
      let small = (small_exactly t z).0 f.1.0 in
      let long = (nor (view_short (split_wide_of t z) z (lengths_of m)) _).0 f.1.1 in
      let e = (earlier_0_exactly z (lengths_of q) (length k) (length rects)).0 zero.1 in
      record {
        wide = small.0;
        high = small.1;
        fours = (fours_exactly (length rects)).0 e.1;
        picture = (fit_exactly z _ _ _).0 f.0;
        main = view_room (split_wide_of t z) z (lengths_of m) long.0;
        auxiliary = view_room (split_wide_of t z) z (lengths_of a) long.1;
        earlier = (picture_fit_exactly z _ _ _ _).0 e.0;
      }

  accepted : Lent t z rects p m a q k → (split_number ≡ 0) × (earlier_number_of z (lengths_of q) (length k) (length rects) ≡ 0)
  accepted l = (
    (split_0_exactly t z (lengths_of p) (lengths_of m) (lengths_of a)).1
        ((fit_exactly z _ _ _).1 l.picture, ((small_exactly t z).1 (l.wide, l.high), (nor (view_short (split_wide_of t z) z (lengths_of m)) _).1 (view_long (split_wide_of t z) z (lengths_of m) l.main, view_long (split_wide_of t z) z (lengths_of a) l.auxiliary))),
    (earlier_0_exactly z (lengths_of q) (length k) (length rects)).1 ((picture_fit_exactly z _ _ _ _).1 l.earlier, (fours_exactly (length rects)).1 l.fours),
  )

  pub through_0_exactly : (through_number_of t z rects p m a q k ≡ 0) ↔ Lent t z rects p m a q k
  through_0_exactly = (
    λ e. lent (sym (through_plainly t z rects p m a q k) ∙ e),
    λ l. let zero = accepted l in through_plainly t z rects p m a q k ∙ (λ i. first_of (zero.0 i) (zero.1 i)),
  )

-- demand 3 is not vacuous: both walks are accepted exactly when both earlier pictures are lent as the demand takes them
pub both_0_exactly : (t t' : Way) (z : Size) (rects : List ℕ) (p m a q : Planes) (k : List ℕ) (q' : Planes) (k' : List ℕ)
    → (both_number_of t t' z rects p m a q k q' k' ≡ 0) ↔ (Lent t z rects p m a q k × Lent t' z rects p m a q' k')
both_0_exactly t t' z rects p m a q k q' k' = (
  λ e. let two = first_zero _ _ (sym (both_plainly t t' z rects p m a q k q' k') ∙ e) in (lent t z rects p m a q k two.0, lent t' z rects p m a q' k' two.1),
  λ l. let one = accepted t z rects p m a q k l.0 in
      let two = accepted t' z rects p m a q' k' l.1 in
      both_plainly t t' z rects p m a q k q' k' ∙ (λ i. first_of (first_of (one.0 i) (one.1 i)) (first_of (two.0 i) (two.1 i))),
)
