-- Demand 3 in the strict form: where the three calls answer 0, the strict calls were the clipping calls (`strict_main_same`, `strict_auxiliary_same`),
-- and the walk over those is agree_law's. They answer 0 exactly when all is lent as the demand takes it and every rectangle is sound.
-- Assumes nothing.
use Prim.Native.Nat.{ℕ, ◌%◌}
use mathlib.Core.Path.{◌≡◌, refl, sym, ap, ◌∙◌}
use mathlib.Core.Bool.{false}
use mathlib.Core.Logic.{◌↔◌}
use mathlib.Core.List.{List, [], ◌∷◌}
use lib.ListN.{length}
use Rattle.lent.specs.declared.Answer.{Answer}
use Rattle.lent.proofs.Refusal.{refusal_none}
use Rattle.picture.specs.declared.Size.{Size}
use Rattle.layout.specs.Maps.{layout_of}
use Rattle.layout.specs.declared.Way.{Way}
use Rattle.rects.specs.Number.{not_fours}
use Rattle.map.specs.Map.{picture_short, PictureFits}
use Rattle.map.proofs.Sizes.{picture_fit_exactly}
use Rattle.map_apply.proofs.Number.{fours_exactly}
use Rattle.split.specs.declared.number.Views.{Views}
use Rattle.split.specs.Split.{Planes, lengths_of, split_number_of}
use Rattle.agree_law.specs.Agrees.{picture_of, Agrees, Completed}
use Rattle.agree_law.specs.Through.{view_of, view_in, main_view_of, auxiliary_view_of, with_main, with_main_map, first_of, apply_number_on, through_number_of, earlier_number_of, Lent, ThroughOutcome}
use Rattle.agree_law.proofs.Ends.{through_done}
use Rattle.agree_law.proofs.Number.{first_zero, through_plainly, through_0_exactly}
use Rattle.strict.specs.Sound.{unsound, AllSound, SomeFaulty}
use Rattle.strict.specs.Calls.{lent_strict_number_of}
use Rattle.strict.proofs.Faults.{sound_exactly}
use Rattle.strict.proofs.Laws.{strict_main_same, strict_auxiliary_same}
use Rattle.strict.proofs.Number.{strict_0_exactly, strict_12_exactly, strict_same}
use Rattle.strict_law.specs.Walk.{strict_number_on, StrictWalk}

module _ (t : Way) (z : Size) (rects : List ℕ) (p m a q : Planes) (k : List ℕ) where
  -- no step of the walk over the clipping calls would refuse
  walk_zero : split_number_of t z (lengths_of p) (lengths_of m) (lengths_of a) ≡ 0 → PictureFits z (length q.y) (length q.u) (length q.v) (length k) → length rects % 4 ≡ 0
      → through_number_of t z rects p m a q k ≡ 0
  unfolding earlier_number_of
  walk_zero none fits fours =
      let earlier = (refusal_none ((picture_short z (length q.y) (length q.u) (length q.v) (length k), 1) ∷ (not_fours (length rects), 7) ∷ []) tt).1 ((picture_fit_exactly z _ _ _ _).1 fits, ((fours_exactly (length rects)).1 fours, tt)) in
      through_plainly t z rects p m a q k ∙ (λ i. first_of (none i) (earlier i))

  -- ---- what the three calls left, each having answered 0

  module _ {r : Views} {r₁ r₂ : Answer} {m' a' mid : Planes} {half : List ℕ} {x : Planes} {l : List ℕ} (walk : StrictWalk t z rects p m a q k r r₁ r₂ m' a' mid half x l)
      (split_done : r.number ≡ 0) where
    -- the main view's number, and the split's
    main_number : r₁.number ≡ lent_strict_number_of z (view_in r) rects m'.y m'.u m'.v q.y q.u q.v k
    main_number = ap (λ (b : Answer). b.number) walk.main.answer

    split_zero : split_number_of t z (lengths_of p) (lengths_of m) (lengths_of a) ≡ 0
    split_zero = sym (ap (λ (b : Views). b.number) walk.split.answer) ∙ split_done

    -- 12 is answered exactly when all is lent as the demand takes it and some rectangle has a fault
    pub strict_walk_12_exactly : (r₁.number ≡ 12) ↔ (Lent t z rects p m a q k × SomeFaulty z rects)
    strict_walk_12_exactly =
        let twelve = strict_12_exactly z (view_in r) rects (length q.y) (length q.u) (length q.v) (length k) (length m'.y) (length m'.u) (length m'.v) in (
          λ e. let f = twelve.0 (sym main_number ∙ e) in
              ((through_0_exactly t z rects p m a q k).0 (walk_zero split_zero f.0.0 f.0.1), f.1),
          λ f. main_number ∙ twelve.1 ((f.0.earlier, f.0.fours), f.1),
        )

    module _ (main_done : r₁.number ≡ 0) (auxiliary_done : r₂.number ≡ 0) where
      zero : through_number_of t z rects p m a q k ≡ 0
      zero =
          let f = (strict_0_exactly z (view_in r) rects (length q.y) (length q.u) (length q.v) (length k) (length m'.y) (length m'.u) (length m'.v)).0 (sym main_number ∙ main_done) in
          walk_zero split_zero f.0 f.1.0

      done : ThroughOutcome t z rects p m a q k r₂ m' a' x l
      done =
          through_done t z rects p m a q k zero walk.split refl refl
          (strict_main_same z (view_in r) rects m'.y m'.u m'.v q.y q.u q.v k walk.main main_done)
          (strict_auxiliary_same z (view_in r) rects a'.y a'.u a'.v mid.y mid.u mid.v half (layout_of t z.width r.width) walk.auxiliary auxiliary_done)

      -- demand 3, in the strict form
      pub strict_agrees : Agrees z rects (picture_of z p) (picture_of z q) (picture_of z x)
      strict_agrees = done.agrees auxiliary_done

      -- and of the map
      pub strict_completed : Completed z rects k l
      strict_completed = done.completed auxiliary_done

  -- ---- it is not vacuous: they answer 0 exactly when all is lent as the demand takes it, and every rectangle is sound

  abbrev main : Planes
  main = main_view_of t z p m

  abbrev auxiliary : Planes
  auxiliary = auxiliary_view_of t z p a

  abbrev mid : Planes
  mid = with_main t z rects main q

  abbrev half : List ℕ
  half = with_main_map t z rects k

  pub strict_walk_exactly : ((split_number_of t z (lengths_of p) (lengths_of m) (lengths_of a) ≡ 0)
      × ((strict_number_on t z rects main q k ≡ 0) × (strict_number_on t z rects auxiliary mid half ≡ 0)))
      ↔ (Lent t z rects p m a q k × AllSound z rects)
  unfolding through_number_of
  strict_walk_exactly = (
    λ e. let f = (strict_0_exactly z (view_of t z) rects (length q.y) (length q.u) (length q.v) (length k) (length main.y) (length main.u) (length main.v)).0 e.1.0 in
        ((through_0_exactly t z rects p m a q k).0 (walk_zero e.0 f.0 f.1.0), f.1.1.0),
    λ l. let zeros = first_zero (split_number_of t z (lengths_of p) (lengths_of m) (lengths_of a)) _ ((through_0_exactly t z rects p m a q k).1 l.0) in
        let applies = first_zero (apply_number_on t z rects main q k) _ zeros.1 in
        let sound = (sound_exactly z rects).1 l.1 in
        (zeros.0, (same main q k sound ∙ applies.0, same auxiliary mid half sound ∙ applies.1)),
  )
    where
      same : (v q : Planes) (k : List ℕ) → unsound z rects ≡ false → strict_number_on t z rects v q k ≡ apply_number_on t z rects v q k
      same v q k = strict_same z (view_of t z) rects (length q.y) (length q.u) (length q.v) (length k) (length v.y) (length v.u) (length v.v)
