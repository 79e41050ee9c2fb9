-- From the calls' definitions to demand 3: the views that a split leaves hold its samples, the planes that the apply calls leave are read at
-- a row and column, and the steps of `Steps` follow.
-- Assumes nothing.
use Prim.Native.Nat.{ℕ, ◌*◌, ◌/◌, ◌<◌, ◌≤◌}
use native.Mathlib.Omega.{arith}
use mathlib.Core.Path.{◌≡◌, refl, sym, ap, ◌∙◌, subst}
use mathlib.Core.Bool.{Bool, cond, ◌&&◌, and_assoc}
use mathlib.Core.List.{List}
use lib.Dec.{ltb}
use lib.ListN.{length}
use Rattle.lent.specs.Paint.{painted, whole}
use Rattle.lent.specs.Samples.{sample}
use Rattle.lent.proofs.Painted.{painted_at, length_painted}
use Rattle.picture.specs.declared.Size.{Size}
use Rattle.picture.specs.Sizes.{stride_of, rows_of}
use Rattle.view.specs.declared.View.{View}
use Rattle.layout.specs.declared.Chroma.{Chroma}
use Rattle.layout.specs.declared.Chroma.TheVariants.{CU, CV}
use Rattle.layout.specs.declared.Layout.{Layout}
use Rattle.layout.specs.declared.Layout.TheVariants.{V2}
use Rattle.layout.specs.declared.Way.{Way}
use Rattle.layout.specs.declared.Way.TheVariants.{AsV1, AsV2}
use Rattle.layout.specs.declared.WidthRule.{WidthRule}
use Rattle.layout.specs.declared.WidthRule.TheVariants.{To16, To32}
use Rattle.layout.specs.Maps.{Part, PY, PU, PV, Maps, place, part_of, maps}
use Rattle.layout.specs.Exists.{side, gives, fed}
use Rattle.layout.specs.Fed.{Fed}
use Rattle.layout.proofs.Fed.{maps-fed}
use Rattle.rects.specs.Rects.{taken, area}
use Rattle.rects.proofs.Rects.{taken_beside}
use Rattle.apply_main.specs.Main.{main_luma, main_chroma, halved, chroma_after}
use Rattle.apply_auxiliary_rows.specs.Rows.{part_sample, auxiliary_source}
use Rattle.apply_auxiliary.specs.Auxiliary.{auxiliary_in, auxiliary_rule, auxiliary_after}
use Rattle.split_views.specs.Fits.{Room}
use Rattle.split.specs.Split.{Planes, split_layout_of, split_wide_of, pick_chroma, main_sample, auxiliary_sample, view_after}
use Rattle.split.proofs.Calls.{wide_enough}
use Rattle.split.proofs.Before.{seen_inside}
use Rattle.agree_law.specs.Agrees.{picture_of, widened, Agrees, Completed}
use Rattle.agree_law.specs.Steps.{ViewSamples, seen_picture, at_spot, main_view, auxiliary_view, Extends, Steps}
use Rattle.agree_law.specs.Through.{three_of, view_of, applied_layout_of, main_view_of, auxiliary_view_of, with_main, with_auxiliary, through_of, through_map_of, through_number_of, Lent}
use Rattle.agree_law.proofs.Agree.{agrees}
use Rattle.agree_law.proofs.Complete.{completed}
use Rattle.agree_law.proofs.Number.{through_0_exactly}

-- a sample of a plane that was painted
sample-painted : (w h : ℕ) (t : ℕ → ℕ → Bool) (s : ℕ → ℕ → ℕ) (xs : List ℕ) (r c : ℕ) → r < h → c < w → h * w ≤ length xs
    → sample (painted w h t s xs) w r c ≡ cond (t r c) (s r c) (sample xs w r c)
unfolding sample
sample-painted w h t s xs r c hr hc fits = painted_at w h t s xs r c hr hc fits

-- a view that a split has written holds what it was to hold
pub written : (t : Way) (z : Size) (s : ViewSamples) (o : Planes) → Room (length o.y) (length o.u) (length o.v) (split_wide_of t z) (rows_of z)
    → (q : Part) (r c : ℕ) → r < side q (rows_of z) → c < side q (split_wide_of t z)
    → let v = three_of (view_after 0 (split_wide_of t z) z s o) in
    part_sample (view_of t z) v.y v.u v.v q r c ≡ s q r c
written t z s o long PY r c hr hc = sample-painted (split_wide_of t z) (rows_of z) whole (s PY) o.y r c hr hc long.y_room
written t z s o long PU r c hr hc = sample-painted (split_wide_of t z / 2) (rows_of z / 2) whole (s PU) o.u r c (omega arith) (omega (arith, (wide_enough t z).fours)) long.u_room
written t z s o long PV r c hr hc = sample-painted (split_wide_of t z / 2) (rows_of z / 2) whole (s PV) o.v r c (omega arith) (omega (arith, (wide_enough t z).fours)) long.v_room

-- what is split is the picture as if its planes went on past the stride
main_written : (z : Size) (p : Planes) (q : Part) (r c : ℕ) → main_sample (stride_of z) p q r c ≡ main_view (seen_picture z p) q r c
main_written z p PY r c = refl
main_written z p PU r c = refl
main_written z p PV r c = refl

auxiliary_written : (t : Layout) (z : Size) (p : Planes) (q : Part) (r c : ℕ) → auxiliary_sample t (stride_of z) p.u p.v q r c ≡ auxiliary_view (maps t) (seen_picture z p) q r c
unfolding auxiliary_sample
auxiliary_written t z p q r c = refl

goes_on : (z : Size) (p : Planes) → Extends z (picture_of z p) (seen_picture z p)
goes_on z p = record {
  luma = λ r c hr hc. sym (seen_inside 0 p.y (stride_of z) r c hc);
  chroma = λ k r c hr hc. sym (seen_inside 128 (pick_chroma k p.u p.v) (stride_of z) r c hc);
}

-- the W that an apply call finds for a split's view is the split's
pub applied_layout : (t : Way) (z : Size) → applied_layout_of t z ≡ split_layout_of t z
applied_layout AsV1 z = refl
applied_layout (AsV2 To16) z = ap V2 (omega arith)
applied_layout (AsV2 To32) z = refl

-- what the chroma rules take over a list, with what does not look at the rectangle beside it
main_taken : (t : Way) (z : Size) (rects : List ℕ) (r c : ℕ) → taken (main_chroma z (view_of t z)) rects r c ≡ (widened z rects r c && (ltb r (rows_of z) && ltb c (split_wide_of t z)))
unfolding main_chroma
main_taken t z rects r c =
    taken_beside (main_chroma z (view_of t z)) (area z) (ltb r (rows_of z) && ltb c (split_wide_of t z)) rects r c
    (λ left top right bottom. and_assoc (area z left top right bottom r c) (ltb r (rows_of z)) (ltb c (split_wide_of t z)))

auxiliary_taken : (l : Layout) (w : View) (z : Size) (rects : List ℕ) (r c : ℕ) → taken (auxiliary_rule l z w) rects r c ≡ (widened z rects r c && gives (maps l) w.width w.height r c)
unfolding auxiliary_in fed
auxiliary_taken l w z rects r c = taken_beside (auxiliary_rule l z w) (area z) (gives (maps l) w.width w.height r c) rects r c (λ left top right bottom. refl)

module _ (t : Way) (z : Size) (rects : List ℕ) (p m a q : Planes) (k : List ℕ) (f : Lent t z rects p m a q k) where
  abbrev v : Planes
  v = main_view_of t z p m

  abbrev x : Planes
  x = auxiliary_view_of t z p a

  abbrev mid : Planes
  mid = with_main t z rects v q

  abbrev after : Planes
  after = with_auxiliary t z rects x mid

  abbrev held : Maps
  held = maps (split_layout_of t z)

  abbrev main : ViewSamples
  main = part_sample (view_of t z) v.y v.u v.v

  abbrev auxiliary : ViewSamples
  auxiliary = part_sample (view_of t z) x.y x.u x.v

  -- a chroma plane, with the main view applied; then with the auxiliary view applied
  main_plane : (k : Chroma) (samples plane : List ℕ) (r c : ℕ) → r < rows_of z → c < stride_of z → rows_of z * stride_of z ≤ length plane
      → sample (chroma_after z (view_of t z) rects samples plane) (stride_of z) r c
      ≡ cond (widened z rects r c && (ltb r (rows_of z) && ltb c (split_wide_of t z))) (sample samples (split_wide_of t z / 2) (r / 2) (c / 2)) (sample plane (stride_of z) r c)
  unfolding halved
  main_plane k samples plane r c hr hc fits =
      sample-painted (stride_of z) (rows_of z) (taken (main_chroma z (view_of t z)) rects) (halved samples (split_wide_of t z / 2)) plane r c hr hc fits
      ∙ ap (λ (b : Bool). cond b (sample samples (split_wide_of t z / 2) (r / 2) (c / 2)) (sample plane (stride_of z) r c)) (main_taken t z rects r c)

  auxiliary_plane : (k : Chroma) (plane : List ℕ) (r c : ℕ) → r < rows_of z → c < stride_of z → rows_of z * stride_of z ≤ length plane
      → sample (auxiliary_after (applied_layout_of t z) k z (view_of t z) rects x.y x.u x.v plane) (stride_of z) r c
      ≡ cond (widened z rects r c && gives held (split_wide_of t z) (rows_of z) r c) (at_spot auxiliary (held.spot (place k r c))) (sample plane (stride_of z) r c)
  unfolding auxiliary_source
  auxiliary_plane k plane r c hr hc fits =
      ap (λ (l : Layout). sample (auxiliary_after l k z (view_of t z) rects x.y x.u x.v plane) (stride_of z) r c) (applied_layout t z)
      ∙ sample-painted (stride_of z) (rows_of z) (taken (auxiliary_rule (split_layout_of t z) z (view_of t z)) rects) (auxiliary_source (split_layout_of t z) k (view_of t z) x.y x.u x.v) plane r c hr hc fits
      ∙ ap (λ (b : Bool). cond b (at_spot auxiliary (held.spot (place k r c))) (sample plane (stride_of z) r c)) (auxiliary_taken (split_layout_of t z) (view_of t z) z rects r c)

  main_chroma_lem : (k : Chroma) (r c : ℕ) → r < rows_of z → c < stride_of z
      → (picture_of z mid).chroma k r c ≡ cond (widened z rects r c && (ltb r (rows_of z) && ltb c (split_wide_of t z))) (main (part_of k) (r / 2) (c / 2)) ((picture_of z q).chroma k r c)
  main_chroma_lem CU r c hr hc = main_plane CU v.u q.u r c hr hc f.earlier.planes.u_fits
  main_chroma_lem CV r c hr hc = main_plane CV v.v q.v r c hr hc f.earlier.planes.v_fits

  auxiliary_chroma : (k : Chroma) (r c : ℕ) → r < rows_of z → c < stride_of z
      → (picture_of z after).chroma k r c
      ≡ cond (widened z rects r c && gives held (split_wide_of t z) (rows_of z) r c) (at_spot auxiliary (held.spot (place k r c))) ((picture_of z mid).chroma k r c)
  auxiliary_chroma CU r c hr hc = auxiliary_plane CU mid.u r c hr hc (rw length_painted f.earlier.planes.u_fits)
  auxiliary_chroma CV r c hr hc = auxiliary_plane CV mid.v r c hr hc (rw length_painted f.earlier.planes.v_fits)

  steps : Steps held (view_of t z) z rects (seen_picture z p) (picture_of z q) (picture_of z mid) (picture_of z after) main auxiliary
  steps = record {
    main_is = λ s r c hr hc. written t z (main_sample (stride_of z) p) m f.main s r c hr hc ∙ main_written z p s r c;
    auxiliary_is = λ s r c hr hc. written t z (auxiliary_sample (split_layout_of t z) (stride_of z) p.u p.v) a f.auxiliary s r c hr hc ∙ auxiliary_written (split_layout_of t z) z p s r c;
    main_luma_lem = λ r c hr hc. sample-painted (stride_of z) (rows_of z) (taken (main_luma z (view_of t z)) rects) (sample v.y (split_wide_of t z)) q.y r c hr hc f.earlier.planes.y_fits;
    main_chroma_lem = main_chroma_lem;
    auxiliary_luma = λ r c hr hc. refl;
    auxiliary_chroma = auxiliary_chroma;
  }

  -- demand 3, of the calls' definitions, whatever the way: one proof over W
  pub lent_agrees : Agrees z rects (picture_of z p) (picture_of z q) (picture_of z (through_of t z rects p m a q))
  unfolding through_of
  lent_agrees =
      agrees held (view_of t z) z rects (picture_of z p) (seen_picture z p) (picture_of z q) (picture_of z mid) (picture_of z after) main auxiliary
      (maps-fed t z.width (stride_of z) (rows_of z) (omega arith) (omega arith)) (wide_enough t z).enough (omega arith) (goes_on z p) steps

  -- and of the map
  pub lent_completed : Completed z rects k (through_map_of t z rects k)
  unfolding through_map_of
  lent_completed =
      completed (applied_layout_of t z) (view_of t z) z rects (wide_enough t z).enough (omega arith)
      (subst (λ (l : Layout). Fed (maps l) (split_wide_of t z) (rows_of z)) (sym (applied_layout t z)) (maps-fed t z.width (stride_of z) (rows_of z) (omega arith) (omega arith)))
      k f.earlier.map

module _ (t : Way) (z : Size) (rects : List ℕ) (p m a q : Planes) (k : List ℕ) (none : through_number_of t z rects p m a q k ≡ 0) where
  pub through_agrees : Agrees z rects (picture_of z p) (picture_of z q) (picture_of z (through_of t z rects p m a q))
  through_agrees = lent_agrees t z rects p m a q k ((through_0_exactly t z rects p m a q k).0 none)

  pub through_completed : Completed z rects k (through_map_of t z rects k)
  through_completed = lent_completed t z rects p m a q k ((through_0_exactly t z rects p m a q k).0 none)

-- ---- demand 3: as V1 onto the one, as V2 onto the other, by either rule; the views' buffers may be any that are long enough

module _ (rule : WidthRule) (z : Size) (rects : List ℕ) (p m a q m' a' q' : Planes) (k k' : List ℕ) (one : Lent AsV1 z rects p m a q k) (two : Lent (AsV2 rule) z rects p m' a' q' k') where
  pub layouts_agree : Agrees z rects (picture_of z p) (picture_of z q) (picture_of z (through_of AsV1 z rects p m a q))
      × Agrees z rects (picture_of z p) (picture_of z q') (picture_of z (through_of (AsV2 rule) z rects p m' a' q'))
  layouts_agree = (lent_agrees AsV1 z rects p m a q k one, lent_agrees (AsV2 rule) z rects p m' a' q' k' two)

  pub layouts_complete : Completed z rects k (through_map_of AsV1 z rects k) × Completed z rects k' (through_map_of (AsV2 rule) z rects k')
  layouts_complete = (lent_completed AsV1 z rects p m a q k one, lent_completed (AsV2 rule) z rects p m' a' q' k' two)
