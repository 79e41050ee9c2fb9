-- Split, apply the main view, apply the auxiliary view: the definitions that those calls' contracts cite, one after the other. The apply
-- calls are those that are lent the earlier picture's map of stale colour too.
--
--   buffers_in p              three buffers as a list; `three_of` leads back
--   view_of t z               the size of both views of a split, the picture being sent the way t: W by rows, luma stride W, chroma stride half of
--                            it; W is V2's, and the stride for V1
--   view_in r                 the same, as a split's answer r has it
--   applied_layout_of t z      the layout that an apply call finds for such a view
--   main_view_of t z p m       the buffers m of the main view, once a split of the picture p has written them
--   auxiliary_view_of t z p a        the same of the auxiliary view
--   with_main t z rects v q   the picture q, once the main view v is applied over the list
--   with_auxiliary t z rects v q    the picture q, once the auxiliary view v is applied over the list
--   through_of t z rects p m a q      the earlier picture q after the three steps
--   through_map_of t z rects k       the earlier picture's map k after the three steps
--   laid_over z rects p q     the picture p laid over the earlier picture q, with no view between: p's luma where the main view's call takes
--                            luma, p's chroma in each widened rectangle, every other byte of q's buffers as it was. Whatever the way,
--                            the three steps leave just this (`through_laid`)
--   laid_by rule z rects s o  of one plane: the samples of s that the rule takes over the list, laid over o
--   laid_map z rects k        the map k with 2 in each block of a widened rectangle, every other byte as it was: what they leave of the map
--   first_of n k              n where it is a refusal, else k
--   apply_number_on t z rects v q k    the number of an apply call of the view v, of a split's size, onto the picture q with its map k
--   through_number_of t z rects p m a q k      the first number that a step would give, 0 where none would refuse
--   earlier_number_of z n nk nr        what the apply calls can refuse: 1, which covers the map, and 7, since a split's views are never narrow
--                            or short (`through_plainly`); nk is the map's length
--   Lent t z rects p m a q k   what 0 says (`through_0_exactly`): sides of 0 to 65,520, a width of 0 to 65,504 by the 32 rule, a list in fours, and
--                            buffers that are long enough
--   planes_after n old new    three buffers after a call that answered n
--   picture_in q k            three planes and a map as a list; picture_after n old new k l is what they are after a call that answered n
--   through_buffers_of n t z rects p m a q k      the views' buffers and the earlier picture after the three steps, the number being n
--   ThroughOutcome ...       how the three steps end: the answer r, the views' buffers m' and a', and x and l, which the earlier picture and its
--                            map have become. Number and every lent byte are equations, and 0 comes with demand 3, of the map too
use Rattle.std.specs.Prelude.{ℕ, ◌*◌, ◌/◌, ◌%◌, ◌≤◌, ◌≡◌, cond, List, [], ◌∷◌, ◌++◌, eqb, length}
use Rattle.lent.specs.declared.Answer.{Answer}
use Rattle.lent.specs.Outcome.{Outcome, answer_of, lent_after}
use Rattle.lent.specs.Paint.{painted}
use Rattle.lent.specs.Refusal.{refusal}
use Rattle.lent.specs.Samples.{sample}
use Rattle.picture.specs.declared.Size.{Size}
use Rattle.picture.specs.Sizes.{stride_of, rows_of, PlanesFit}
use Rattle.view.specs.declared.View.{View}
use Rattle.layout.specs.Maps.{layout_of}
use Rattle.layout.specs.declared.Layout.{Layout}
use Rattle.layout.specs.declared.Way.{Way}
use Rattle.layout.specs.declared.Way.TheVariants.{AsV1}
use Rattle.rects.specs.Rects.{Rule, taken, area}
use Rattle.rects.specs.Number.{not_fours}
use Rattle.apply_main.specs.Main.{main_luma, main_buffers_of}
use Rattle.apply_auxiliary.specs.Auxiliary.{auxiliary_buffers_of}
use Rattle.map.specs.Map.{across_of, down_of, picture_short, PictureFits}
use Rattle.map_apply.specs.Blocks.{map_after}
use Rattle.map_apply.specs.Blocks.Call.{Main, Auxiliary}
use Rattle.map_apply.specs.Calls.{lent_map_number_of}
use Rattle.split.specs.declared.number.PlaneLengths.{PlaneLengths}
use Rattle.split.specs.declared.number.Views.{Views}
use Rattle.split_views.specs.Fits.{Room}
use Rattle.split.specs.Split.{Planes, planes, lengths_of, split_layout_of, split_wide_of, widest_of, main_sample, auxiliary_sample, view_after, split_number_of}
use Rattle.agree_law.specs.Agrees.{picture_of, Agrees, Completed}

abbrev pub buffers_in : Planes → List (List ℕ)
buffers_in p = p.y ∷ p.u ∷ p.v ∷ []

abbrev pub three_of : List (List ℕ) → Planes
three_of [] = planes [] [] []
three_of (y ∷ []) = planes y [] []
three_of (y ∷ u ∷ []) = planes y u []
three_of (y ∷ u ∷ v ∷ rest) = planes y u v

abbrev pub view_of : Way → Size → View
view_of t z = record { width = split_wide_of t z; height = rows_of z; luma_stride = split_wide_of t z; chroma_stride = split_wide_of t z / 2 }

abbrev pub applied_layout_of : Way → Size → Layout
applied_layout_of t z = layout_of t z.width (view_of t z).width

-- the size that a split's answer gives
abbrev pub view_in : Views → View
view_in r = record { width = r.width; height = r.height; luma_stride = r.luma_stride; chroma_stride = r.chroma_stride }

-- what each call leaves where it answers 0
abbrev pub main_view_of : Way → Size → Planes → Planes → Planes
main_view_of t z p m = three_of (view_after 0 (split_wide_of t z) z (main_sample (stride_of z) p) m)

abbrev pub auxiliary_view_of : Way → Size → Planes → Planes → Planes
auxiliary_view_of t z p a = three_of (view_after 0 (split_wide_of t z) z (auxiliary_sample (split_layout_of t z) (stride_of z) p.u p.v) a)

abbrev pub with_main : Way → Size → List ℕ → Planes → Planes → Planes
with_main t z rects v q = three_of (main_buffers_of 0 z (view_of t z) rects v.y v.u v.v q.y q.u q.v)

abbrev pub with_auxiliary : Way → Size → List ℕ → Planes → Planes → Planes
with_auxiliary t z rects v q = three_of (auxiliary_buffers_of 0 (applied_layout_of t z) z (view_of t z) rects v.y v.u v.v q.y q.u q.v)

unfoldable pub through_of : Way → Size → List ℕ → Planes → Planes → Planes → Planes → Planes
through_of t z rects p m a q = with_auxiliary t z rects (auxiliary_view_of t z p a) (with_main t z rects (main_view_of t z p m) q)

-- the map's part of the same two calls
abbrev pub with_main_map : Way → Size → List ℕ → List ℕ → List ℕ
with_main_map t z rects k = map_after z (Main (view_of t z) rects) k

unfoldable pub through_map_of : Way → Size → List ℕ → List ℕ → List ℕ
through_map_of t z rects k = map_after z (Auxiliary (applied_layout_of t z) (view_of t z) rects) (with_main_map t z rects k)

abbrev pub laid_by : Rule → Size → List ℕ → List ℕ → List ℕ → List ℕ
laid_by rule z rects s o = painted (stride_of z) (rows_of z) (taken rule rects) (sample s (stride_of z)) o

abbrev pub laid_over : Size → List ℕ → Planes → Planes → Planes
laid_over z rects p q =
    planes (laid_by (main_luma z (view_of AsV1 z)) z rects p.y q.y) (laid_by (area z) z rects p.u q.u) (laid_by (area z) z rects p.v q.v)

abbrev pub laid_map : Size → List ℕ → List ℕ → List ℕ
laid_map z rects k = painted (across_of z) (down_of z) (λ i j. taken (area z) rects (2 * i) (2 * j)) (λ i j. 2) k

abbrev pub first_of : ℕ → ℕ → ℕ
first_of n k = cond (eqb n 0) k n

abbrev pub apply_number_on : Way → Size → List ℕ → Planes → Planes → List ℕ → ℕ
apply_number_on t z rects v q k = lent_map_number_of z (view_of t z) rects v.y v.u v.v q.y q.u q.v k

unfoldable pub through_number_of : Way → Size → List ℕ → Planes → Planes → Planes → Planes → List ℕ → ℕ
through_number_of t z rects p m a q k =
    first_of (split_number_of t z (lengths_of p) (lengths_of m) (lengths_of a))
    (first_of (apply_number_on t z rects (main_view_of t z p m) q k)
    (apply_number_on t z rects (auxiliary_view_of t z p a) (with_main t z rects (main_view_of t z p m) q) (with_main_map t z rects k)))

unfoldable pub earlier_number_of : Size → PlaneLengths → ℕ → ℕ → ℕ
earlier_number_of z n nk nr = refusal ((picture_short z n.y n.u n.v nk, 1) ∷ (not_fours nr, 7) ∷ [])

pub record Lent (t : Way) (z : Size) (rects : List ℕ) (p m a q : Planes) (k : List ℕ) : Type 0 where
  pub wide : z.width ≤ widest_of t
  pub high : z.height ≤ 65520
  pub fours : length rects % 4 ≡ 0
  pub picture : PlanesFit z (length p.y) (length p.u) (length p.v)
  pub main : Room (length m.y) (length m.u) (length m.v) (split_wide_of t z) (rows_of z)
  pub auxiliary : Room (length a.y) (length a.u) (length a.v) (split_wide_of t z) (rows_of z)
  pub earlier : PictureFits z (length q.y) (length q.u) (length q.v) (length k)

abbrev pub planes_after : ℕ → Planes → Planes → List (List ℕ)
planes_after n old new = lent_after n old.y new.y ∷ lent_after n old.u new.u ∷ lent_after n old.v new.v ∷ []

abbrev pub picture_in : Planes → List ℕ → List (List ℕ)
picture_in q k = buffers_in q ++ (k ∷ [])

abbrev pub picture_after : ℕ → Planes → Planes → List ℕ → List ℕ → List (List ℕ)
picture_after n old new k l = planes_after n old new ++ (lent_after n k l ∷ [])

unfoldable pub through_buffers_of : ℕ → Way → Size → List ℕ → Planes → Planes → Planes → Planes → List ℕ → List (List ℕ)
through_buffers_of n t z rects p m a q k =
    planes_after n m (main_view_of t z p m)
    ++ (planes_after n a (auxiliary_view_of t z p a) ++ picture_after n q (through_of t z rects p m a q) k (through_map_of t z rects k))

pub record ThroughOutcome (t : Way) (z : Size) (rects : List ℕ) (p m a q : Planes) (k : List ℕ)
    (r : Answer) (m' a' x : Planes) (l : List ℕ) : Type 0 where
  pub ends : Outcome (answer_of (through_number_of t z rects p m a q k) 0) (through_buffers_of (through_number_of t z rects p m a q k) t z rects p m a q k)
      r (buffers_in m' ++ (buffers_in a' ++ picture_in x l))
  pub agrees : r.number ≡ 0 → Agrees z rects (picture_of z p) (picture_of z q) (picture_of z x)
  pub completed : r.number ≡ 0 → Completed z rects k l
