-- How the walks end: refused, with every lent byte as it was; or done, where each call answered 0 and left what its definition says.
-- Assumes nothing.
use Prim.Native.Nat.{ℕ}
use mathlib.Core.Path.{◌≡◌, sym, ap, ◌∙◌, subst}
use mathlib.Core.List.{List, [], ◌∷◌, ◌++◌}
use lib.ListN.{length, drop, get_or}
use Rattle.lent.specs.declared.Answer.{Answer}
use Rattle.lent.specs.Outcome.{answer_of}
use Rattle.lent.proofs.Ends.{answer_none, lent_refused}
use Rattle.picture.specs.declared.Size.{Size}
use Rattle.picture.specs.Sizes.{stride_of}
use Rattle.view.specs.declared.View.{View}
use Rattle.layout.specs.Maps.{layout_of}
use Rattle.layout.specs.declared.Layout.{Layout}
use Rattle.layout.specs.declared.Way.{Way}
use Rattle.map_apply.specs.Calls.{lent_map_number_of, map_main_buffers_of, map_auxiliary_buffers_of, MapMainOutcome, MapAuxiliaryOutcome}
use Rattle.split.specs.declared.number.Views.{Views}
use Rattle.split.specs.Split.{Planes, lengths_of, split_layout_of, split_wide_of, main_sample, auxiliary_sample, view_after, split_number_of, split_answer_of, split_buffers_of, SplitOutcome}
use Rattle.agree_law.specs.Agrees.{picture_of, Agrees, Completed}
use Rattle.agree_law.specs.Through.{buffers_in, three_of, view_of, view_in, main_view_of, auxiliary_view_of, with_main, with_main_map, through_of, through_map_of, first_of, apply_number_on, through_number_of, earlier_number_of, planes_after, picture_in, picture_after, through_buffers_of, ThroughOutcome}
use Rattle.agree_law.specs.Both.{second_of, both_number_of, both_buffers_of, BothOutcome}
use Rattle.agree_law.proofs.Number.{first_zero, through_plainly}
use Rattle.agree_law.proofs.Calls.{through_agrees, through_completed}

-- three buffers of a refused call
planes_refused : (n : ℕ) (old new : Planes) → (n ≡ 0 → ⊥) → buffers_in old ≡ planes_after n old new
planes_refused n old new f = λ i. lent_refused n old.y new.y f i ∷ lent_refused n old.u new.u f i ∷ lent_refused n old.v new.v f i ∷ []

-- and with a map beside them
picture_refused : (n : ℕ) (old new : Planes) (k l : List ℕ) → (n ≡ 0 → ⊥) → picture_in old k ≡ picture_after n old new k l
picture_refused n old new k l f = λ i. planes_refused n old new f i ++ (lent_refused n k l f i ∷ [])

module _ (t : Way) (z : Size) (rects : List ℕ) (p m a q : Planes) (k : List ℕ) where
  abbrev found : ℕ
  found = first_of (split_number_of t z (lengths_of p) (lengths_of m) (lengths_of a)) (earlier_number_of z (lengths_of q) (length k) (length rects))

  pub through_refused : {n : ℕ} → n ≡ found → (n ≡ 0 → ⊥) → ThroughOutcome t z rects p m a q k (record { number = n; count = 0 }) m a q k
  unfolding through_buffers_of
  through_refused {n} is f =
      let num : n ≡ through_number_of t z rects p m a q k = is ∙ sym (through_plainly t z rects p m a q k) in
      let not-zero : through_number_of t z rects p m a q k ≡ 0 → ⊥ = λ e. f (num ∙ e) in
      record {
        ends = record {
          answer = answer_none num;
          buffers = λ i. planes_refused _ m (main_view_of t z p m) not-zero i
              ++ (planes_refused _ a (auxiliary_view_of t z p a) not-zero i
              ++ picture_refused _ q (through_of t z rects p m a q) k (through_map_of t z rects k) not-zero i);
        };
        agrees = λ e. absurd (f e);
        completed = λ e. absurd (f e);
      }

  module _ (zero : through_number_of t z rects p m a q k ≡ 0) {r : Views} {w : View} {y : Layout} {r₁ r₂ : Answer} {m' a' mid x : Planes} {half l : List ℕ}
      (split : SplitOutcome t z p m a r (buffers_in m' ++ buffers_in a')) (sized : w ≡ view_in r) (laid : y ≡ layout_of t z.width w.width)
      (first : MapMainOutcome z w rects m'.y m'.u m'.v q.y q.u q.v k r₁ (picture_in mid half))
      (second : MapAuxiliaryOutcome y z w rects a'.y a'.u a'.v mid.y mid.u mid.v half r₂ (picture_in x l)) where
    -- each step would answer 0
    zeros : (split_number_of t z (lengths_of p) (lengths_of m) (lengths_of a) ≡ 0)
        × ((apply_number_on t z rects (main_view_of t z p m) q k ≡ 0)
        × (apply_number_on t z rects (auxiliary_view_of t z p a) (with_main t z rects (main_view_of t z p m) q) (with_main_map t z rects k) ≡ 0))
    unfolding through_number_of
    zeros = let f = first_zero (split_number_of t z (lengths_of p) (lengths_of m) (lengths_of a)) _ zero in (f.0, first_zero (apply_number_on t z rects (main_view_of t z p m) q k) _ f.1)

    -- what the split left
    views : (buffers_in m' ++ buffers_in a') ≡ (buffers_in (main_view_of t z p m) ++ buffers_in (auxiliary_view_of t z p a))
    unfolding split_buffers_of
    views = split.buffers ∙ ap (λ (n : ℕ). view_after n (split_wide_of t z) z (main_sample (stride_of z) p) m ++ view_after n (split_wide_of t z) z (auxiliary_sample (split_layout_of t z) (stride_of z) p.u p.v) a) zeros.0

    main_is : m' ≡ main_view_of t z p m
    main_is = ap three_of views

    auxiliary_is : a' ≡ auxiliary_view_of t z p a
    auxiliary_is = ap (λ (l : List (List ℕ)). three_of (drop 3 l)) views

    size_is : w ≡ view_of t z
    size_is = sized ∙ ap view_in split.answer ∙ ap (λ (n : ℕ). view_in (split_answer_of t z n)) zeros.0

    -- what the main view's call left, and the auxiliary view's
    main_left_all : picture_in mid half ≡ map_main_buffers_of 0 z (view_of t z) rects (main_view_of t z p m).y (main_view_of t z p m).u (main_view_of t z p m).v q.y q.u q.v k
    main_left_all =
        first.buffers
        ∙ (λ i. map_main_buffers_of (lent_map_number_of z (size_is i) rects (main_is i).y (main_is i).u (main_is i).v q.y q.u q.v k) z (size_is i) rects (main_is i).y (main_is i).u (main_is i).v q.y q.u q.v k)
        ∙ ap (λ (n : ℕ). map_main_buffers_of n z (view_of t z) rects (main_view_of t z p m).y (main_view_of t z p m).u (main_view_of t z p m).v q.y q.u q.v k) zeros.1.0

    mid_is : mid ≡ with_main t z rects (main_view_of t z p m) q
    mid_is = ap three_of main_left_all

    half_is : half ≡ with_main_map t z rects k
    half_is = ap (λ (l : List (List ℕ)). get_or l 3 []) main_left_all

    -- the auxiliary view's number, as the call worked it out
    last_zero : lent_map_number_of z w rects a'.y a'.u a'.v mid.y mid.u mid.v half ≡ 0
    last_zero = (λ i. lent_map_number_of z (size_is i) rects (auxiliary_is i).y (auxiliary_is i).u (auxiliary_is i).v (mid_is i).y (mid_is i).u (mid_is i).v (half_is i)) ∙ zeros.1.1

    after_is : picture_in x l ≡ picture_in (through_of t z rects p m a q) (through_map_of t z rects k)
    unfolding through_of through_map_of
    after_is =
        second.buffers
        ∙ ap (λ (n : ℕ). map_auxiliary_buffers_of n y z w rects a'.y a'.u a'.v mid.y mid.u mid.v half) last_zero
        ∙ ap (λ (s : Layout). map_auxiliary_buffers_of 0 s z w rects a'.y a'.u a'.v mid.y mid.u mid.v half) laid
        ∙ (λ i. map_auxiliary_buffers_of 0 (layout_of t z.width (size_is i).width) z (size_is i) rects (auxiliary_is i).y (auxiliary_is i).u (auxiliary_is i).v (mid_is i).y (mid_is i).u (mid_is i).v (half_is i))

    pub through_done : ThroughOutcome t z rects p m a q k r₂ m' a' x l
    unfolding through_buffers_of
    through_done = record {
      ends = record {
        answer = second.answer ∙ ap (λ (n : ℕ). answer_of n 0) (last_zero ∙ sym zero);
        buffers = (λ i. buffers_in (main_is i) ++ (buffers_in (auxiliary_is i) ++ after_is i)) ∙ ap (λ (n : ℕ). through_buffers_of n t z rects p m a q k) (sym zero);
      };
      agrees = λ e. subst (λ (s : List (List ℕ)). Agrees z rects (picture_of z p) (picture_of z q) (picture_of z (three_of s))) (sym after_is) (through_agrees t z rects p m a q k zero);
      completed = λ e. subst (λ (s : List (List ℕ)). Completed z rects k (get_or s 3 [])) (sym after_is) (through_completed t z rects p m a q k zero);
    }

-- ---- in both ways

-- what a walk that answered 0 has left
module _ (t : Way) (z : Size) (rects : List ℕ) (p m a q : Planes) (k : List ℕ) (zero : through_number_of t z rects p m a q k ≡ 0) {r : Answer} {m' a' x : Planes} {l : List ℕ}
    (walk : ThroughOutcome t z rects p m a q k r m' a' x l) where
  answered : r ≡ answer_of 0 0
  answered = walk.ends.answer ∙ ap (λ (n : ℕ). answer_of n 0) zero

  left : (buffers_in m' ++ (buffers_in a' ++ picture_in x l)) ≡ through_buffers_of 0 t z rects p m a q k
  left = walk.ends.buffers ∙ ap (λ (n : ℕ). through_buffers_of n t z rects p m a q k) zero

  main_left : m' ≡ main_view_of t z p m
  unfolding through_buffers_of
  main_left = ap three_of left

  auxiliary_left : a' ≡ auxiliary_view_of t z p a
  unfolding through_buffers_of
  auxiliary_left = ap (λ (l : List (List ℕ)). three_of (drop 3 l)) left

  earlier_left : picture_in x l ≡ picture_in (through_of t z rects p m a q) (through_map_of t z rects k)
  unfolding through_buffers_of
  earlier_left = ap (drop 6) left

module _ (t t' : Way) (z : Size) (rects : List ℕ) (p m a q : Planes) (k : List ℕ) (q' : Planes) (k' : List ℕ) where
  pub both_refused : {n : ℕ} → n ≡ both_number_of t t' z rects p m a q k q' k' → (n ≡ 0 → ⊥)
      → BothOutcome t t' z rects p m a q k q' k' (record { number = n; count = 0 }) m a q k q' k'
  unfolding both_buffers_of
  both_refused {n} is f =
      let not-zero : both_number_of t t' z rects p m a q k q' k' ≡ 0 → ⊥ = λ e. f (is ∙ e) in
      record {
        ends = record {
          answer = answer_none is;
          buffers = λ i. planes_refused _ m (main_view_of t' z p (main_view_of t z p m)) not-zero i
              ++ (planes_refused _ a (auxiliary_view_of t' z p (auxiliary_view_of t z p a)) not-zero i
              ++ (picture_refused _ q (through_of t z rects p m a q) k (through_map_of t z rects k) not-zero i
              ++ picture_refused _ q' (second_of t t' z rects p m a q') k' (through_map_of t' z rects k') not-zero i));
        };
        first = λ e. absurd (f e);
        first_completed = λ e. absurd (f e);
        second = λ e. absurd (f e);
        second_completed = λ e. absurd (f e);
      }

  module _ (zero : both_number_of t t' z rects p m a q k q' k' ≡ 0) {r₁ r₂ : Answer} {m₁ a₁ x m₂ a₂ x' : Planes} {l l' : List ℕ}
      (one : ThroughOutcome t z rects p m a q k r₁ m₁ a₁ x l) (two : ThroughOutcome t' z rects p m₁ a₁ q' k' r₂ m₂ a₂ x' l') where
    both_zeros : (through_number_of t z rects p m a q k ≡ 0) × (through_number_of t' z rects p (main_view_of t z p m) (auxiliary_view_of t z p a) q' k' ≡ 0)
    unfolding both_number_of
    both_zeros = first_zero (through_number_of t z rects p m a q k) _ zero

    main_first : m₁ ≡ main_view_of t z p m
    main_first = main_left t z rects p m a q k both_zeros.0 one

    auxiliary_first : a₁ ≡ auxiliary_view_of t z p a
    auxiliary_first = auxiliary_left t z rects p m a q k both_zeros.0 one

    then_zero : through_number_of t' z rects p m₁ a₁ q' k' ≡ 0
    then_zero = (λ i. through_number_of t' z rects p (main_first i) (auxiliary_first i) q' k') ∙ both_zeros.1

    first_zero_answered : r₁.number ≡ 0
    first_zero_answered = ap (λ (r : Answer). r.number) (answered t z rects p m a q k both_zeros.0 one)

    pub both_done : BothOutcome t t' z rects p m a q k q' k' r₂ m₂ a₂ x l x' l'
    unfolding both_buffers_of
    both_done = record {
      ends = record {
        answer = answered t' z rects p m₁ a₁ q' k' then_zero two ∙ ap (λ (n : ℕ). answer_of n 0) (sym zero);
        buffers =
            (λ i. buffers_in (main_left t' z rects p m₁ a₁ q' k' then_zero two i)
            ++ (buffers_in (auxiliary_left t' z rects p m₁ a₁ q' k' then_zero two i)
            ++ (earlier_left t z rects p m a q k both_zeros.0 one i
            ++ earlier_left t' z rects p m₁ a₁ q' k' then_zero two i)))
            ∙ (λ i. buffers_in (main_view_of t' z p (main_first i))
            ++ (buffers_in (auxiliary_view_of t' z p (auxiliary_first i))
            ++ (picture_in (through_of t z rects p m a q) (through_map_of t z rects k)
            ++ picture_in (through_of t' z rects p (main_first i) (auxiliary_first i) q') (through_map_of t' z rects k'))))
            ∙ ap (λ (n : ℕ). both_buffers_of n t t' z rects p m a q k q' k') (sym zero);
      };
      first = λ e. one.agrees first_zero_answered;
      first_completed = λ e. one.completed first_zero_answered;
      second = two.agrees;
      second_completed = two.completed;
    }
