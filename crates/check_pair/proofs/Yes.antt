-- Yes is answered exactly where both views are alike with those that a split of the picture leaves, whatever was lent to the split: a viewer
-- could not tell them apart. And what a split itself has left is answered yes.
-- Assumes nothing.
use Prim.Native.Nat.{ℕ, ◌*◌, ◌/◌, ◌<◌, ◌≤◌}
use native.Mathlib.Omega.{arith}
use mathlib.Core.Path.{◌≡◌, refl, sym, ap, ◌∙◌, subst}
use mathlib.Core.Bool.{true}
use mathlib.Core.Logic.Iff
use mathlib.Core.Logic.{◌↔◌}
use mathlib.Core.List.{List, [], ◌∷◌, ◌++◌}
use lib.ListN.{length, get_or}
use Rattle.lent.specs.Paint.{painted, whole}
use Rattle.lent.specs.Samples.{sample}
use Rattle.lent.specs.Sizes.{half_up}
use Rattle.lent.proofs.Painted.{painted_at, length_painted}
use Rattle.picture.specs.declared.Size.{Size}
use Rattle.picture.specs.Sizes.{stride_of, rows_of}
use Rattle.layout.specs.Maps.{Part, PY, PU, PV}
use Rattle.layout.specs.declared.Way.{Way}
use Rattle.view.specs.declared.View.{View}
use Rattle.view.specs.Alike.{Alike}
use Rattle.split.specs.declared.number.Views.{Views}
use Rattle.split.specs.Accepted.{SplitAccepted}
use Rattle.split.specs.Split.{Planes, planes, lengths_of, split_layout_of, split_wide_of, main_sample, auxiliary_sample, view_after, split_number_of, split_answer_of, split_buffers_of, SplitOutcome}
use Rattle.split.proofs.Calls.{wide_enough, accepted}
use Rattle.split.proofs.Exactly.{small_exactly}
use Rattle.split_views.specs.Fits.{Room}
use Rattle.check_pair.specs.declared.Name.{Name}
use Rattle.check_pair.specs.declared.Name.TheVariants.{YPlane, UPlane, VPlane}
use Rattle.check_pair.specs.declared.Sent.{Sent}
use Rattle.check_pair.specs.declared.Sent.TheVariants.{Main, Auxiliary}
use Rattle.check_pair.specs.declared.Where.{Where}
use Rattle.check_pair.specs.Verdict.{part_of, plane_of, bytes_of, side_of, held_of, index_of, order_of}
use Rattle.check_pair.specs.Checked.{checked_of}
use Rattle.check_pair.specs.Places.{sent_of, name_of, Visible, RightAt, SizesMatch, view_in}
use Rattle.check_pair.proofs.Exactly.{number_in, Fits, check_0_exactly}
use Rattle.check_pair.proofs.First.{plane_sides, place_is, visible_at, right_is}
use Rattle.check_pair.proofs.OnePlane.{where_at}
use Rattle.check_pair.proofs.Answer.{same_says}

-- ---- a view that holds the samples s, and one that is alike with it

module _ (t : Way) (z : Size) (s : Part → ℕ → ℕ → ℕ) where
  -- every visible sample of the view v with the planes o is that of s
  abbrev Holds : View → Planes → Type 0
  Holds v o = (n : Name) (r c : ℕ) → r < side_of n (rows_of z) → c < side_of n (split_wide_of t z) → sample (bytes_of o n) (plane_of v n).stride r c ≡ s (part_of n) r c

  abbrev Sized : View → Type 0
  Sized v = (v.width ≡ split_wide_of t z) × (v.height ≡ rows_of z)

  module _ (v : View) (o : Planes) (sized : Sized v) (holds : Holds v o) (w : View) (m : Planes) where
    alike_holds : Alike w m.y m.u m.v v o.y o.u o.v ↔ (Sized w × Holds w m)
    alike_holds = (
      λ h. let e = h.width ∙ sized.0 in
          let f = h.height ∙ sized.1 in ((e, f), held h e f),
      λ h. record {
        width = h.0.0 ∙ sym sized.0;
        height = h.0.1 ∙ sym sized.1;
        y_same = λ r c hr hc. let k = h.0 in let a = small YPlane h.0 r c hr hc in h.1 YPlane r c a.0 a.1 ∙ sym (holds YPlane r c a.0 a.1);
        u_same = λ r c hr hc. let a = small UPlane h.0 r c hr hc in h.1 UPlane r c a.0 a.1 ∙ sym (holds UPlane r c a.0 a.1);
        v_same = λ r c hr hc. let a = small VPlane h.0 r c hr hc in h.1 VPlane r c a.0 a.1 ∙ sym (holds VPlane r c a.0 a.1);
      },
    )
      where
        small : (n : Name) → Sized w → (r c : ℕ) → r < (plane_of w n).height → c < (plane_of w n).width → (r < side_of n (rows_of z)) × (c < side_of n (split_wide_of t z))
        small n k r c hr hc = let e = plane_sides t z w k.0 k.1 n in (subst (λ (h : ℕ). r < h) e.0 hr, subst (λ (h : ℕ). c < h) e.1 hc)

        large : (n : Name) → Sized w → (r c : ℕ) → r < side_of n (rows_of z) → c < side_of n (split_wide_of t z) → (r < (plane_of w n).height) × (c < (plane_of w n).width)
        large n k r c hr hc = let e = plane_sides t z w k.0 k.1 n in (subst (λ (h : ℕ). r < h) (sym e.0) hr, subst (λ (h : ℕ). c < h) (sym e.1) hc)

        held : Alike w m.y m.u m.v v o.y o.u o.v → w.width ≡ split_wide_of t z → w.height ≡ rows_of z → Holds w m
        held h e f YPlane r c hr hc = let a = large YPlane (e, f) r c hr hc in h.y_same r c a.0 a.1 ∙ holds YPlane r c hr hc
        held h e f UPlane r c hr hc = let a = large UPlane (e, f) r c hr hc in h.u_same r c a.0 a.1 ∙ holds UPlane r c hr hc
        held h e f VPlane r c hr hc = let a = large VPlane (e, f) r c hr hc in h.v_same r c a.0 a.1 ∙ holds VPlane r c hr hc

-- ---- every visible place is right where both views hold what the split does

module _ (t : Way) (z : Size) (p : Planes) (w : View) (m : Planes) (x : View) (a : Planes) where
  abbrev held : Sent → Part → ℕ → ℕ → ℕ
  held s = held_of s (split_layout_of t z) (stride_of z) p

  all_right : (SizesMatch t z w x × ((l : Where) → Visible t z l → RightAt t z p w m x a l))
      ↔ ((Sized t z (held Main) w × Holds t z (held Main) w m) × (Sized t z (held Auxiliary) x × Holds t z (held Auxiliary) x a))
  all_right = (
    λ h. let f = h.0 in (
      ((f.main_width, f.main_height), λ n r c hr hc. (right_is t z p w m x a Main n r c).0 (h.1 _ (visible_at t z Main n r c hr hc))),
      ((f.auxiliary_width, f.auxiliary_height), λ n r c hr hc. (right_is t z p w m x a Auxiliary n r c).0 (h.1 _ (visible_at t z Auxiliary n r c hr hc))),
    ),
    λ h. (
      record { main_width = h.0.0.0; main_height = h.0.0.1; auxiliary_width = h.1.0.0; auxiliary_height = h.1.0.1 },
      λ l v. subst (RightAt t z p w m x a) (place_is l v.view v.plane) (by h.0.1 h.1.1 (sent_of l.view) (name_of l.plane) l.row l.column v.row v.column),
    ),
  )
    where
      by : Holds t z (held Main) w m → Holds t z (held Auxiliary) x a → (s : Sent) (n : Name) (r c : ℕ) → r < side_of n (rows_of z) → c < side_of n (split_wide_of t z)
          → RightAt t z p w m x a (where_at (order_of s) (index_of n) r c)
      by f g Main n r c hr hc = (right_is t z p w m x a Main n r c).1 (f n r c hr hc)
      by f g Auxiliary n r c hr hc = (right_is t z p w m x a Auxiliary n r c).1 (g n r c hr hc)

-- ---- what a split leaves holds what the split does

sample-painted : (w h : ℕ) (s : ℕ → ℕ → ℕ) (xs : List ℕ) (r c : ℕ) → r < h → c < w → h * w ≤ length xs → sample (painted w h whole s xs) w r c ≡ s r c
unfolding sample
sample-painted w h s xs r c hr hc fits = painted_at w h whole s xs r c hr hc fits

abbrev three_of : List (List ℕ) → Planes
three_of l = planes (get_or l 0 []) (get_or l 1 []) (get_or l 2 [])

abbrev later_of : List (List ℕ) → Planes
later_of l = planes (get_or l 3 []) (get_or l 4 []) (get_or l 5 [])

-- both views of a split, and one of them as it is written over o
abbrev made_of : Way → Size → View
made_of t z = view_in (split_answer_of t z 0)

abbrev written_of : Way → Size → (Part → ℕ → ℕ → ℕ) → Planes → Planes
written_of t z s o = three_of (view_after 0 (split_wide_of t z) z s o)

written_holds : (t : Way) (z : Size) (s : Part → ℕ → ℕ → ℕ) (o : Planes) → Room (length o.y) (length o.u) (length o.v) (split_wide_of t z) (rows_of z) → Holds t z s (made_of t z) (written_of t z s o)
written_holds t z s o room YPlane r c hr hc = sample-painted (split_wide_of t z) (rows_of z) (s PY) o.y r c hr hc room.y_room
written_holds t z s o room UPlane r c hr hc = sample-painted (split_wide_of t z / 2) (rows_of z / 2) (s PU) o.u r c hr hc room.u_room
written_holds t z s o room VPlane r c hr hc = sample-painted (split_wide_of t z / 2) (rows_of z / 2) (s PV) o.v r c hr hc room.v_room

module _ (t : Way) (z : Size) (p b c o e : Planes) {r : Views} (ends : SplitOutcome t z p b c r (o.y ∷ o.u ∷ o.v ∷ e.y ∷ e.u ∷ e.v ∷ [])) (none : r.number ≡ 0) where
  abbrev main : Part → ℕ → ℕ → ℕ
  main = main_sample (stride_of z) p

  abbrev auxiliary : Part → ℕ → ℕ → ℕ
  auxiliary = auxiliary_sample (split_layout_of t z) (stride_of z) p.u p.v

  zero : split_number_of t z (lengths_of p) (lengths_of b) (lengths_of c) ≡ 0
  zero = sym (ap (λ (v : Views). v.number) ends.answer) ∙ none

  left : (o.y ∷ o.u ∷ o.v ∷ e.y ∷ e.u ∷ e.v ∷ []) ≡ (view_after 0 (split_wide_of t z) z main b ++ view_after 0 (split_wide_of t z) z auxiliary c)
  unfolding split_buffers_of
  left = ends.buffers ∙ ap (λ (n : ℕ). view_after n (split_wide_of t z) z main b ++ view_after n (split_wide_of t z) z auxiliary c) zero

  view_is : view_in r ≡ made_of t z
  view_is = ap view_in ends.answer ∙ ap (λ (n : ℕ). view_in (split_answer_of t z n)) zero

  main_is : o ≡ written_of t z main b
  main_is = ap three_of left

  auxiliary_is : e ≡ written_of t z auxiliary c
  auxiliary_is = ap later_of left

  fits : SplitAccepted t z (lengths_of p) (lengths_of b) (lengths_of c)
  fits = accepted t z (lengths_of p) (lengths_of b) (lengths_of c) zero

  sized : Sized t z main (view_in r)
  sized = (ap (λ (v : View). v.width) view_is, ap (λ (v : View). v.height) view_is)

  main_holds : Holds t z main (view_in r) o
  main_holds n q k hq hk = (λ i. sample (bytes_of (main_is i) n) (plane_of (view_is i) n).stride q k) ∙ written_holds t z main b fits.main_room n q k hq hk

  auxiliary_holds : Holds t z auxiliary (view_in r) e
  auxiliary_holds n q k hq hk = (λ i. sample (bytes_of (auxiliary_is i) n) (plane_of (view_is i) n).stride q k) ∙ written_holds t z auxiliary c fits.auxiliary_room n q k hq hk

  -- "A yes holds exactly when sizes agree with the split's and every visible sample equals it; stride padding is ignored"
  pub yes_exactly : (w : View) (m : Planes) (x : View) (a : Planes) → ((checked_of t z p w m x a).same ≡ true)
      ↔ ((number_in t z p w m x a ≡ 0)
      × (Alike w m.y m.u m.v (view_in r) o.y o.u o.v × Alike x a.y a.u a.v (view_in r) e.y e.u e.v))
  yes_exactly w m x a =
      Iff.trans (same_says t z p w m x a)
      (Iff.and Iff.rfl
      (Iff.trans (all_right t z p w m x a)
      (Iff.and
      (Iff.symm (alike_holds t z main (view_in r) o sized main_holds w m))
      (Iff.symm (alike_holds t z auxiliary (view_in r) e sized auxiliary_holds x a)))))

  -- ---- the split's own views

  whole_view : (s : Part → ℕ → ℕ → ℕ) (q k : Planes) → k ≡ written_of t z s q → Room (length q.y) (length q.u) (length q.v) (split_wide_of t z) (rows_of z) → Fits (view_in r) (lengths_of k)
  whole_view s q k is room =
      let high : half_up (rows_of z) ≡ rows_of z / 2 = omega arith in
      let y : length k.y ≡ length q.y = ap (λ (l : Planes). length l.y) is ∙ length_painted _ _ _ _ _ in
      let u : length k.u ≡ length q.u = ap (λ (l : Planes). length l.u) is ∙ length_painted _ _ _ _ _ in
      let v : length k.v ≡ length q.v = ap (λ (l : Planes). length l.v) is ∙ length_painted _ _ _ _ _ in
      let half = ap (λ (h : ℕ). h * (split_wide_of t z / 2)) high in
      subst (λ (d : View). Fits d (lengths_of k)) (sym view_is)
      (record {
        luma_wide = omega arith;
        chroma_wide = omega (arith, (wide_enough t z).fours);
        y_long = omega (arith, room.y_room);
        u_long = omega (arith, room.u_room);
        v_long = omega (arith, room.v_room);
      })

  -- what a split that answers 0 has left is its split, whatever was lent
  pub own_split : (checked_of t z p (view_in r) o (view_in r) e).same ≡ true
  own_split =
      (yes_exactly (view_in r) o (view_in r) e).1 (
        (check_0_exactly t z (lengths_of p) (view_in r) (lengths_of o) (view_in r) (lengths_of e)).1 (
          (record { y_fits = fits.y_whole.fits; u_fits = fits.u_whole.fits; v_fits = fits.v_whole.fits }, (small_exactly t z).0 fits.small),
          (whole_view main b o main_is fits.main_room, whole_view auxiliary c e auxiliary_is fits.auxiliary_room),
        ),
        (itself (view_in r) o, itself (view_in r) e),
      )
    where
      itself : (v : View) (k : Planes) → Alike v k.y k.u k.v v k.y k.u k.v
      itself v k = record { width = refl; height = refl; y_same = λ q l hq hl. refl; u_same = λ q l hq hl. refl; v_same = λ q l hq hl. refl }
