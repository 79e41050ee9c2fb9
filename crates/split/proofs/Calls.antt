-- How a split ends: a number that is not 0 leaves the outputs as they were; 0 says that all that is lent is long enough, and leaves
-- the two views. Assumes nothing.
use Prim.Native.Nat.{ℕ, ◌*◌, ◌≤◌}
use native.Mathlib.Omega.{arith}
use mathlib.Core.Path.{◌≡◌, refl, sym, ap, ◌∙◌}
use mathlib.Core.Bool.{true, false}
use mathlib.Core.List.{[], ◌∷◌}
use lib.Dec.{eqb}
use borrow.Author.Tests.{eq-eqb, ne_eqb}
use Rattle.lent.specs.Refused.{number_of}
use Rattle.lent.specs.declared.refused.Refusal.{Refusal}
use Rattle.lent.proofs.Answered.{never_0}
use Rattle.lent.proofs.Exactly.{nor}
use Rattle.picture.specs.declared.Size.{Size}
use Rattle.picture.specs.Sizes.{stride_of, rows_of}
use Rattle.picture.proofs.Sizes.{planes_fit}
use Rattle.layout.specs.declared.Way.{Way}
use Rattle.layout.specs.declared.Way.TheVariants.{AsV1, AsV2}
use Rattle.layout.specs.declared.WidthRule.TheVariants.{To16, To32}
use Rattle.split.specs.declared.number.PlaneLengths.{PlaneLengths}
use Rattle.split.specs.declared.number.Views.{Views}
use Rattle.split.proofs.Exactly.{split_0_exactly}
use Rattle.split.proofs.Short.{view_room}
use Rattle.split.specs.Split.{Planes, lengths_of, split_layout_of, split_wide_of, main_sample, auxiliary_sample, view_short, split_number_of, split_answer_of, split_buffers_of, Written, SplitOutcome}
use Rattle.split_views.specs.Fits.{MacroblocksFit, WideEnough}
use Rattle.split.specs.Accepted.{SplitAccepted}
use Rattle.split.specs.Refused.{refused_with}

whole_plane : (z : Size) {n : ℕ} → rows_of z * stride_of z ≤ n → MacroblocksFit n (stride_of z) (rows_of z)
whole_plane z fits = record { fits = fits; wide = omega arith; high = omega arith }

-- the views have room for the picture's columns, whatever the way
pub wide_enough : (t : Way) (z : Size) → WideEnough (stride_of z) (split_wide_of t z)
wide_enough AsV1 z = record { enough = omega arith; fours = omega arith }
wide_enough (AsV2 To16) z = record { enough = omega arith; fours = omega arith }
wide_enough (AsV2 To32) z = record { enough = omega arith; fours = omega arith }

pub accepted : (t : Way) (z : Size) (p m a : PlaneLengths) → split_number_of t z p m a ≡ 0 → SplitAccepted t z p m a
accepted t z p m a e =
    let f = (split_0_exactly t z p m a).0 e in
    let fit = planes_fit z p.y p.u p.v f.0 in
    let out = (nor (view_short (split_wide_of t z) z m) (view_short (split_wide_of t z) z a)).0 f.1.1 in
    record {
      y_whole = whole_plane z fit.y_fits;
      u_whole = whole_plane z fit.u_fits;
      v_whole = whole_plane z fit.v_fits;
      main_room = view_room (split_wide_of t z) z m out.0;
      auxiliary_room = view_room (split_wide_of t z) z a out.1;
      small = f.1.0;
    }

-- a refused split has no sizes
pub refused_answer : (t : Way) (z : Size) (r : Refusal) → refused_with r ≡ split_answer_of t z (number_of r)
refused_answer t z r = rw (ne_eqb (number_of r) 0 (never_0 r)) refl

module _ (t : Way) (z : Size) (p m a : Planes) {n : ℕ} {r : Views} (is : n ≡ split_number_of t z (lengths_of p) (lengths_of m) (lengths_of a)) where
  pub refused : (n ≡ 0 → ⊥) → r ≡ split_answer_of t z n → SplitOutcome t z p m a r (m.y ∷ m.u ∷ m.v ∷ a.y ∷ a.u ∷ a.v ∷ [])
  unfolding split_buffers_of
  refused some answered =
      let no : eqb (split_number_of t z (lengths_of p) (lengths_of m) (lengths_of a)) 0 ≡ false = ne_eqb _ 0 (λ e. some (is ∙ e)) in
      record { answer = answered ∙ ap (split_answer_of t z) is; buffers = rw no refl }

  pub done : {m' a' : Planes} → n ≡ 0 → r ≡ split_answer_of t z 0
      → Written (split_wide_of t z) (rows_of z) (main_sample (stride_of z) p) m m'
      → Written (split_wide_of t z) (rows_of z) (auxiliary_sample (split_layout_of t z) (stride_of z) p.u p.v) a a'
      → SplitOutcome t z p m a r (m'.y ∷ m'.u ∷ m'.v ∷ a'.y ∷ a'.u ∷ a'.v ∷ [])
  unfolding split_buffers_of
  done none answered w x =
      let zero : split_number_of t z (lengths_of p) (lengths_of m) (lengths_of a) ≡ 0 = sym is ∙ none in
      let yes : eqb (split_number_of t z (lengths_of p) (lengths_of m) (lengths_of a)) 0 ≡ true = eq-eqb _ 0 zero in
      record {
        answer = answered ∙ ap (split_answer_of t z) (sym zero);
        buffers = rw yes (λ i. w.y_is i ∷ w.u_is i ∷ w.v_is i ∷ x.y_is i ∷ x.u_is i ∷ x.v_is i ∷ []);
      }
