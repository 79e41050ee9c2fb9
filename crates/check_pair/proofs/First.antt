-- The verdict on two views, exactly: a place is named where it is wrong and each one before it is right, so that it is the only such place;
-- sizes where one is not the split's; same where the sizes are the split's and every visible sample is right.
-- Assumes nothing.
use Prim.Native.Nat.{ℕ, ◌<◌}
use native.Mathlib.Omega.{arith}
use mathlib.Core.Path.{◌≡◌, refl, sym, ap, ◌∙◌, subst}
use mathlib.Core.Bool.{Bool, true, false, ◌&&◌}
use mathlib.Core.Logic.Iff
use mathlib.Core.Logic.{◌↔◌, ◌⊎◌, inl, inr, ⊎_elim}
use lib.Dec.{eqb}
use borrow.Author.Tests.{eqb-true, eqb-false, eq-eqb}
use Rattle.lent.specs.Samples.{sample}
use Rattle.lent.proofs.Bools.{split, never_true, both, both_left, both_right, cond-true, cond-false}
use Rattle.picture.specs.declared.Size.{Size}
use Rattle.picture.specs.Sizes.{stride_of, rows_of}
use Rattle.layout.specs.declared.Way.{Way}
use Rattle.view.specs.declared.View.{View}
use Rattle.split.specs.Number.{split_layout_of, split_wide_of}
use Rattle.split.proofs.Calls.{wide_enough}
use Rattle.split_views.specs.Views.{Planes}
use Rattle.check_pair.specs.declared.Name.{Name}
use Rattle.check_pair.specs.declared.Name.TheVariants.{YPlane, UPlane, VPlane}
use Rattle.check_pair.specs.declared.Sent.{Sent}
use Rattle.check_pair.specs.declared.Sent.TheVariants.{Main, Auxiliary}
use Rattle.check_pair.specs.declared.Verdict.{Verdict}
use Rattle.check_pair.specs.declared.Verdict.TheVariants.{Same, Sizes, Wrong}
use Rattle.check_pair.specs.declared.Where.{Where}
use Rattle.check_pair.specs.Number.{sizes_agree}
use Rattle.check_pair.specs.Verdict.{part_of, plane_of, bytes_of, side_of, held_of, index_of, order_of, or_else, named_verdict_of, view_verdict_of, pair_verdict_of}
use Rattle.check_pair.specs.Places.{sent_of, name_of, Visible, Before, RightAt, SizesMatch, FirstWrongAt}
use Rattle.check_pair.proofs.Order.{before_or_same, Tells, then_tells, same_tells}
use Rattle.check_pair.proofs.OnePlane.{where_at, InPlane, plane_tells}

-- ---- sizes

module _ (t : Way) (z : Size) (w x : View) where
  pub agree_facts : (sizes_agree t z w && sizes_agree t z x) ≡ true → SizesMatch t z w x
  unfolding sizes_agree
  agree_facts e =
      let f = both_left (sizes_agree t z w) (sizes_agree t z x) e in
      let g = both_right (sizes_agree t z w) (sizes_agree t z x) e in
      record {
        main_width = eqb-true _ _ (both_left (eqb w.width (split_wide_of t z)) _ f);
        main_height = eqb-true _ _ (both_right (eqb w.width (split_wide_of t z)) _ f);
        auxiliary_width = eqb-true _ _ (both_left (eqb x.width (split_wide_of t z)) _ g);
        auxiliary_height = eqb-true _ _ (both_right (eqb x.width (split_wide_of t z)) _ g);
      }

  pub agree_holds : SizesMatch t z w x → (sizes_agree t z w && sizes_agree t z x) ≡ true
  unfolding sizes_agree
  agree_holds f =
      both (sizes_agree t z w) (sizes_agree t z x)
      (both (eqb w.width (split_wide_of t z)) _ (eq-eqb _ _ f.main_width) (eq-eqb _ _ f.main_height))
      (both (eqb x.width (split_wide_of t z)) _ (eq-eqb _ _ f.auxiliary_width) (eq-eqb _ _ f.auxiliary_height))

  pub sizes_differ : (v : View) → sizes_agree t z v ≡ false → (eqb v.width (split_wide_of t z) && eqb v.height (rows_of z)) ≡ false
  unfolding sizes_agree
  sizes_differ v e = e

-- a plane of a view that has the sizes of the split's
pub plane_sides : (t : Way) (z : Size) (v : View) → v.width ≡ split_wide_of t z → v.height ≡ rows_of z → (n : Name)
    → ((plane_of v n).height ≡ side_of n (rows_of z)) × ((plane_of v n).width ≡ side_of n (split_wide_of t z))
plane_sides t z v e f YPlane = (f, e)
plane_sides t z v e f UPlane = (omega (arith, f), omega (arith, e, (wide_enough t z).fours))
plane_sides t z v e f VPlane = (omega (arith, f), omega (arith, e, (wide_enough t z).fours))

-- ---- the six planes in order

name_index : (n : Name) → name_of (index_of n) ≡ n
name_index YPlane = refl
name_index UPlane = refl
name_index VPlane = refl

order_low : (s : Sent) → order_of s < 2
order_low Main = omega arith
order_low Auxiliary = omega arith

-- each place is one of the six planes'
pub place_is : (l : Where) → l.view < 2 → l.plane < 3 → where_at (order_of (sent_of l.view)) (index_of (name_of l.plane)) l.row l.column ≡ l
place_is l v i = λ j. record { view = view_is l.view v j; plane = plane_is l.plane i j; row = l.row; column = l.column }
  where
    view_is : (n : ℕ) → n < 2 → order_of (sent_of n) ≡ n
    view_is n lt = ⊎_elim (λ b. let e : 0 ≡ n = omega arith in subst (λ (k : ℕ). order_of (sent_of k) ≡ k) e refl) (λ b. let e : 1 ≡ n = omega arith in subst (λ (k : ℕ). order_of (sent_of k) ≡ k) e refl) (split n 1)

    plane_is : (n : ℕ) → n < 3 → index_of (name_of n) ≡ n
    plane_is n lt =
        ⊎_elim
        (λ b. let e : 0 ≡ n = omega arith in subst (λ (k : ℕ). index_of (name_of k) ≡ k) e refl)
        (λ b. ⊎_elim (λ d. let e : 1 ≡ n = omega arith in subst (λ (k : ℕ). index_of (name_of k) ≡ k) e refl) (λ d. let e : 2 ≡ n = omega arith in subst (λ (k : ℕ). index_of (name_of k) ≡ k) e refl) (split n 2))
        (split n 1)

pub visible_at : (t : Way) (z : Size) (s : Sent) (n : Name) (r c : ℕ) → r < side_of n (rows_of z) → c < side_of n (split_wide_of t z) → Visible t z (where_at (order_of s) (index_of n) r c)
visible_at t z s YPlane r c hr hc = record { view = order_low s; plane = omega arith; row = hr; column = hc }
visible_at t z s UPlane r c hr hc = record { view = order_low s; plane = omega arith; row = hr; column = hc }
visible_at t z s VPlane r c hr hc = record { view = order_low s; plane = omega arith; row = hr; column = hc }

module _ (t : Way) (z : Size) (p : Planes) (w : View) (m : Planes) (x : View) (a : Planes) where
  abbrev Right : Where → Type 0
  Right = RightAt t z p w m x a

  abbrev view_of : Sent → View
  view_of Main = w
  view_of Auxiliary = x

  abbrev lent_to : Sent → Planes
  lent_to Main = m
  lent_to Auxiliary = a

  abbrev In : Sent → Name → Where → Type 0
  In s n = InPlane (order_of s) (index_of n) (plane_of (view_of s) n)

  abbrev InView : Sent → Where → Type 0
  InView s k = In s YPlane k ⊎ (In s UPlane k ⊎ In s VPlane k)

  abbrev named : Sent → Name → Verdict
  named s n = named_verdict_of s n (split_layout_of t z) (stride_of z) p (view_of s) (lent_to s)

  abbrev viewed : Sent → Verdict
  viewed s = view_verdict_of s (split_layout_of t z) (stride_of z) p (view_of s) (lent_to s)

  -- a place is right where the sample there is what the split holds
  pub right_is : (s : Sent) (n : Name) (r c : ℕ) → RightAt t z p w m x a (where_at (order_of s) (index_of n) r c)
      ↔ (sample (bytes_of (lent_to s) n) (plane_of (view_of s) n).stride r c ≡ held_of s (split_layout_of t z) (stride_of z) p (part_of n) r c)
  right_is Main YPlane r c = Iff.rfl
  right_is Main UPlane r c = Iff.rfl
  right_is Main VPlane r c = Iff.rfl
  right_is Auxiliary YPlane r c = Iff.rfl
  right_is Auxiliary UPlane r c = Iff.rfl
  right_is Auxiliary VPlane r c = Iff.rfl

  named_tells : (s : Sent) (n : Name) → Tells Right (In s n) (named s n)
  named_tells s n = plane_tells Right (order_of s) (index_of n) _ _ _ (right_is s n)

  -- a plane comes before one with a higher index
  planes_order : (s : Sent) (n o : Name) → index_of n < index_of o → (k l : Where) → In s n k → In s o l → Before k l
  planes_order s n o lt k l h g = inr (h.0 ∙ sym g.0, inl (omega (arith, h.1.0, g.1.0)))

  view_tells : (s : Sent) → Tells Right (InView s) (viewed s)
  unfolding view_verdict_of
  view_tells s =
      then_tells Right (In s YPlane) (λ k. In s UPlane k ⊎ In s VPlane k)
      (λ k l h. ⊎_elim (planes_order s YPlane UPlane (omega arith) k l h) (planes_order s YPlane VPlane (omega arith) k l h))
      (named s YPlane) (or_else (named s UPlane) (named s VPlane)) (named_tells s YPlane)
      (then_tells Right (In s UPlane) (In s VPlane) (planes_order s UPlane VPlane (omega arith)) (named s UPlane) (named s VPlane) (named_tells s UPlane) (named_tells s VPlane))

  in_view : (s : Sent) (k : Where) → InView s k → k.view ≡ order_of s
  in_view s k = ⊎_elim (λ h. h.0) (⊎_elim (λ h. h.0) (λ h. h.0))

  pair_tells : Tells Right (λ k. InView Main k ⊎ InView Auxiliary k) (or_else (viewed Main) (viewed Auxiliary))
  pair_tells =
      then_tells Right (InView Main) (InView Auxiliary) (λ k l h g. inl (omega (arith, in_view Main k h, in_view Auxiliary l g)))
      (viewed Main) (viewed Auxiliary) (view_tells Main) (view_tells Auxiliary)

  -- ---- the visible places are those of the six planes

  module _ (f : SizesMatch t z w x) where
    sides : (s : Sent) (n : Name) → ((plane_of (view_of s) n).height ≡ side_of n (rows_of z)) × ((plane_of (view_of s) n).width ≡ side_of n (split_wide_of t z))
    sides Main = plane_sides t z w f.main_width f.main_height
    sides Auxiliary = plane_sides t z x f.auxiliary_width f.auxiliary_height

    seen_in : (s : Sent) (n : Name) (l : Where) → l.view ≡ order_of s → l.plane ≡ index_of n → Visible t z l → In s n l
    seen_in s n l e g v =
        let is = ap name_of g ∙ name_index n in
        let high : side_of (name_of l.plane) (rows_of z) ≡ (plane_of (view_of s) n).height = ap (λ (o : Name). side_of o (rows_of z)) is ∙ sym (sides s n).0 in
        let wide : side_of (name_of l.plane) (split_wide_of t z) ≡ (plane_of (view_of s) n).width = ap (λ (o : Name). side_of o (split_wide_of t z)) is ∙ sym (sides s n).1 in
        (e, (g, (subst (λ (h : ℕ). l.row < h) high v.row, subst (λ (h : ℕ). l.column < h) wide v.column)))

    in_seen : (s : Sent) (n : Name) (l : Where) → In s n l → Visible t z l
    in_seen s n l h =
        let is = ap name_of h.1.0 ∙ name_index n in
        let high : (plane_of (view_of s) n).height ≡ side_of (name_of l.plane) (rows_of z) = (sides s n).0 ∙ sym (ap (λ (o : Name). side_of o (rows_of z)) is) in
        let wide : (plane_of (view_of s) n).width ≡ side_of (name_of l.plane) (split_wide_of t z) = (sides s n).1 ∙ sym (ap (λ (o : Name). side_of o (split_wide_of t z)) is) in
        record {
          view = subst (λ (k : ℕ). k < 2) (sym h.0) (order_low s);
          plane = subst (λ (k : ℕ). k < 3) (sym h.1.0) (three n);
          row = subst (λ (k : ℕ). l.row < k) high h.1.1.0;
          column = subst (λ (k : ℕ). l.column < k) wide h.1.1.1;
        }
      where
        three : (n : Name) → index_of n < 3
        three YPlane = omega arith
        three UPlane = omega arith
        three VPlane = omega arith

    seen_in_view : (s : Sent) (l : Where) → l.view ≡ order_of s → Visible t z l → InView s l
    seen_in_view s l e v =
        ⊎_elim
        (λ lt. inl (seen_in s YPlane l e (omega arith) v))
        (λ ge. inr (⊎_elim (λ lt. inl (seen_in s UPlane l e (omega arith) v)) (λ ge. inr (seen_in s VPlane l e (omega (arith, v.plane)) v)) (split l.plane 2)))
        (split l.plane 1)

    in_view_seen : (s : Sent) (l : Where) → InView s l → Visible t z l
    in_view_seen s l = ⊎_elim (in_seen s YPlane l) (⊎_elim (in_seen s UPlane l) (in_seen s VPlane l))

    -- what the verdict says of all that is visible
    pub verdict_tells : Tells Right (Visible t z) (pair_verdict_of t z p w m x a)
    unfolding pair_verdict_of
    verdict_tells =
        subst (Tells Right (Visible t z)) (sym (cond-true _ (or_else (viewed Main) (viewed Auxiliary)) Sizes (agree_holds t z w x f)))
        (same_tells Right (λ k. InView Main k ⊎ InView Auxiliary k) (Visible t z)
        (λ k. ⊎_elim (in_view_seen Main k) (in_view_seen Auxiliary k))
        (λ k v. ⊎_elim (λ lt. inl (seen_in_view Main k (omega arith) v)) (λ ge. inr (seen_in_view Auxiliary k (omega (arith, v.view)) v)) (split k.view 1))
        (or_else (viewed Main) (viewed Auxiliary)) pair_tells)

  -- ---- the verdict, exactly

  abbrev verdict : Verdict
  verdict = pair_verdict_of t z p w m x a

  -- where sizes are not the verdict, they are the split's
  sizes_else : (verdict ≡ Sizes → ⊥) → SizesMatch t z w x
  unfolding pair_verdict_of
  sizes_else never = by (sizes_agree t z w && sizes_agree t z x) refl
    where
      by : (b : Bool) → (sizes_agree t z w && sizes_agree t z x) ≡ b → SizesMatch t z w x
      by true e = agree_facts t z w x e
      by false e = absurd (never (cond-false _ (or_else (viewed Main) (viewed Auxiliary)) Sizes e))

  -- "a no for samples names the first wrong one": it, and no other place
  pub wrong_first : (l : Where) → (pair_verdict_of t z p w m x a ≡ Wrong l) ↔ (SizesMatch t z w x × FirstWrongAt t z p w m x a l)
  wrong_first l = (
    λ e. let f = sizes_else (λ g. let o : ◌≡◌ {A = ℕ} 0 1 = cc in omega arith) in
        let h = subst (Tells Right (Visible t z)) e (verdict_tells f) in (f, record { visible = h.0; wrong = h.1.0; before = h.1.1 }),
    λ h. by h.1 verdict (verdict_tells h.0),
  )
    where
      by : FirstWrongAt t z p w m x a l → (d : Verdict) → Tells Right (Visible t z) d → d ≡ Wrong l
      by g Same h = absurd (g.wrong (h l g.visible))
      by g Sizes h = absurd h
      by g (Wrong k) h =
          ⊎_elim
          (⊎_elim (λ b. absurd (h.1.0 (g.before k h.0 b))) (λ b. absurd (g.wrong (h.1.1 l g.visible b))))
          (λ e. ap Wrong e)
          (before_or_same k l)

  -- the split itself: "sizes agree with the split's and every visible sample equals it"
  pub same_exactly : (pair_verdict_of t z p w m x a ≡ Same) ↔ (SizesMatch t z w x × ((l : Where) → Visible t z l → RightAt t z p w m x a l))
  same_exactly = (
    λ e. let f = sizes_else (λ g. let o : ◌≡◌ {A = ℕ} 0 1 = cc in omega arith) in (f, subst (Tells Right (Visible t z)) e (verdict_tells f)),
    λ h. by h.1 verdict (verdict_tells h.0),
  )
    where
      by : ((l : Where) → Visible t z l → Right l) → (d : Verdict) → Tells Right (Visible t z) d → d ≡ Same
      by g Same h = refl
      by g Sizes h = absurd h
      by g (Wrong k) h = absurd (h.1.0 (g k h.0))

  -- "a no for sizes": one of the four is not the split's
  pub sizes_exactly : (pair_verdict_of t z p w m x a ≡ Sizes)
      ↔ (((w.width ≡ split_wide_of t z → ⊥) ⊎ (w.height ≡ rows_of z → ⊥)) ⊎ ((x.width ≡ split_wide_of t z → ⊥) ⊎ (x.height ≡ rows_of z → ⊥)))
  sizes_exactly = (
    λ e. ⊎_elim (λ f. inl (unlike w f)) (λ f. inr (unlike x f)) (not_both (sizes_agree t z w) (sizes_agree t z x) (never_true _ (λ f. subst (Tells Right (Visible t z)) e (verdict_tells (agree_facts t z w x f))))),
    λ h. by verdict refl (λ f. ⊎_elim (⊎_elim (λ n. n f.main_width) (λ n. n f.main_height)) (⊎_elim (λ n. n f.auxiliary_width) (λ n. n f.auxiliary_height)) h),
  )
    where
      not_both : (b c : Bool) → (b && c) ≡ false → (b ≡ false) ⊎ (c ≡ false)
      not_both true c e = inr e
      not_both false c e = inl refl

      unlike : (v : View) → sizes_agree t z v ≡ false → (v.width ≡ split_wide_of t z → ⊥) ⊎ (v.height ≡ rows_of z → ⊥)
      unlike v e = ⊎_elim (λ n. inl (eqb-false _ _ n)) (λ n. inr (eqb-false _ _ n)) (not_both (eqb v.width (split_wide_of t z)) _ (sizes_differ t z w x v e))

      by : (d : Verdict) → verdict ≡ d → (SizesMatch t z w x → ⊥) → verdict ≡ Sizes
      by Sizes e never = e
      by Same e never = absurd (never (sizes_else (λ g. let o : ◌≡◌ {A = ℕ} 0 1 = cc in omega arith)))
      by (Wrong l) e never = absurd (never (sizes_else (λ g. let o : ◌≡◌ {A = ℕ} 0 1 = cc in omega arith)))
