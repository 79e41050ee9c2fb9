-- One earlier picture, lent to both walks, is left the same to the last byte, padding and what lies past the planes included: each walk
-- leaves the picture laid over the earlier one, whatever the way and whatever the views' buffers held. Luma comes from the main view
-- alone, which holds the picture's own; demand 3 says each sample of the padded chroma planes and each block of the map; no call changes a
-- byte past them.
-- Assumes nothing.
use Prim.Native.Nat.{ℕ, ◌*◌, ◌<◌}
use native.Mathlib.Omega.{arith}
use mathlib.Core.Path.{◌≡◌, refl, sym, ap, ◌∙◌}
use mathlib.Core.Bool.{Bool, true, false, cond}
use mathlib.Core.List.{List, [], ◌++◌}
use lib.ListN.{drop, get_or}
use Rattle.lent.specs.declared.Answer.{Answer}
use Rattle.lent.specs.Paint.{painted}
use Rattle.lent.specs.Samples.{sample}
use Rattle.lent.proofs.Bools.{cond-true, cond-false}
use Rattle.lent.proofs.Painted.{length_painted, painted_past, painted_is, painted_ext}
use Rattle.picture.specs.declared.Size.{Size}
use Rattle.picture.specs.Sizes.{stride_of, rows_of}
use Rattle.layout.specs.declared.Chroma.{Chroma}
use Rattle.layout.specs.declared.Chroma.TheVariants.{CU, CV}
use Rattle.layout.specs.declared.Way.{Way}
use Rattle.layout.specs.declared.Way.TheVariants.{AsV1}
use Rattle.layout.specs.Maps.{PY}
use Rattle.map.specs.Map.{across_of, down_of, held_of}
use Rattle.map_apply.specs.Blocks.{map_after}
use Rattle.split.specs.Split.{Planes, planes, main_sample}
use Rattle.split.proofs.Calls.{wide_enough}
use Rattle.split.proofs.Before.{seen_inside}
use Rattle.agree_law.specs.Agrees.{Picture, widened, Agrees, Completed}
use Rattle.agree_law.specs.Through.{buffers_in, picture_in, three_of, view_of, main_view_of, auxiliary_view_of, through_of, through_map_of, laid_over, laid_map, through_number_of, Lent}
use Rattle.agree_law.specs.Both.{both_number_of, both_buffers_of, BothOutcome}
use Rattle.agree_law.proofs.Number.{first_zero, through_0_exactly}
use Rattle.agree_law.proofs.Calls.{written, lent_agrees, lent_completed}
use Rattle.agree_law.proofs.Inside.{luma_wider}

-- a plane that two calls painted is fixed by what its samples are afterwards
painted_twice : (w h : ℕ) (t₁ t₂ t : ℕ → ℕ → Bool) (s₁ s₂ s : ℕ → ℕ → ℕ) (xs : List ℕ)
    → ((r c : ℕ) → r < h → c < w → sample (painted w h t₂ s₂ (painted w h t₁ s₁ xs)) w r c ≡ cond (t r c) (s r c) (sample xs w r c))
    → painted w h t₂ s₂ (painted w h t₁ s₁ xs) ≡ painted w h t s xs
unfolding sample
painted_twice w h t₁ t₂ t s₁ s₂ s xs is =
    painted_is w h t s xs _ (length_painted w h t₂ s₂ (painted w h t₁ s₁ xs) ∙ length_painted w h t₁ s₁ xs) is
    (λ k ge hk. painted_past w h t₂ s₂ (painted w h t₁ s₁ xs) k ge (rw length_painted hk) ∙ painted_past w h t₁ s₁ xs k ge hk)

-- what demand 3 says of a chroma sample of the padded planes, in one equation
module _ (z : Size) (rects : List ℕ) (p q x : Picture) (a : Agrees z rects p q x) where
  agreed_chroma : (k : Chroma) (r c : ℕ) → r < rows_of z → c < stride_of z → x.chroma k r c ≡ cond (widened z rects r c) (p.chroma k r c) (q.chroma k r c)
  agreed_chroma k r c hr hc = go (widened z rects r c) refl
    where
      go : (t : Bool) → widened z rects r c ≡ t → x.chroma k r c ≡ cond (widened z rects r c) (p.chroma k r c) (q.chroma k r c)
      go true e = a.chroma_inside k r c e ∙ sym (cond-true (widened z rects r c) _ _ e)
      go false e = a.chroma_elsewhere k r c hr hc e ∙ sym (cond-false (widened z rects r c) _ _ e)

-- and of a block of the map
completed_blocks : (z : Size) (rects k l : List ℕ) → Completed z rects k l → (i j : ℕ) → i < down_of z → j < across_of z
    → held_of z l i j ≡ cond (widened z rects (2 * i) (2 * j)) 2 (held_of z k i j)
completed_blocks z rects k l c i j hi hj = go (widened z rects (2 * i) (2 * j)) refl
  where
    go : (t : Bool) → widened z rects (2 * i) (2 * j) ≡ t → held_of z l i j ≡ cond (widened z rects (2 * i) (2 * j)) 2 (held_of z k i j)
    go true e = c.inside i j e ∙ sym (cond-true (widened z rects (2 * i) (2 * j)) _ _ e)
    go false e = c.elsewhere i j hi hj e ∙ sym (cond-false (widened z rects (2 * i) (2 * j)) _ _ e)

module _ (t : Way) (z : Size) (rects : List ℕ) (p m a q : Planes) (k : List ℕ) (f : Lent t z rects p m a q k) where
  luma_laid : (through_of t z rects p m a q).y ≡ (laid_over z rects p q).y
  unfolding through_of
  luma_laid = painted_ext _ _ _ _ _ _ q.y
      (λ r c hr hc. luma_wider z (view_of t z) (view_of AsV1 z) rects r c (wide_enough t z).enough (omega arith) (omega arith) (omega arith))
      (λ r c hr hc e. written t z (main_sample (stride_of z) p) m f.main PY r c hr (omega (arith, hc, (wide_enough t z).enough)) ∙ sym (seen_inside 0 p.y (stride_of z) r c hc))

  u_laid : (through_of t z rects p m a q).u ≡ (laid_over z rects p q).u
  unfolding through_of
  u_laid = painted_twice _ _ _ _ _ _ _ _ q.u (agreed_chroma z rects _ _ _ (lent_agrees t z rects p m a q k f) CU)

  v_laid : (through_of t z rects p m a q).v ≡ (laid_over z rects p q).v
  unfolding through_of
  v_laid = painted_twice _ _ _ _ _ _ _ _ q.v (agreed_chroma z rects _ _ _ (lent_agrees t z rects p m a q k f) CV)

  map_laid : through_map_of t z rects k ≡ laid_map z rects k
  unfolding through_map_of map_after
  map_laid = painted_twice _ _ _ _ _ _ _ _ k (completed_blocks z rects k _ (lent_completed t z rects p m a q k f))

-- a walk that answers 0 leaves the picture laid over the earlier one, and the map's blocks in the widened rectangles complete
module _ (t : Way) (z : Size) (rects : List ℕ) (p m a q : Planes) (k : List ℕ) (none : through_number_of t z rects p m a q k ≡ 0) where
  pub through_laid : through_of t z rects p m a q ≡ laid_over z rects p q
  through_laid =
      let f = (through_0_exactly t z rects p m a q k).0 none in
      λ i. planes (luma_laid t z rects p m a q k f i) (u_laid t z rects p m a q k f i) (v_laid t z rects p m a q k f i)

  pub through_map_laid : through_map_of t z rects k ≡ laid_map z rects k
  through_map_laid = map_laid t z rects p m a q k ((through_0_exactly t z rects p m a q k).0 none)

module _ (t t' : Way) (z : Size) (rects : List ℕ) (p m a q : Planes) (k : List ℕ) (q' : Planes) (k' : List ℕ) (r : Answer) (m' a' x : Planes) (l : List ℕ) (x' : Planes) (l' : List ℕ)
    (both : BothOutcome t t' z rects p m a q k q' k' r m' a' x l x' l') (done : r.number ≡ 0) where
  none : both_number_of t t' z rects p m a q k q' k' ≡ 0
  none = sym (ap (λ (n : Answer). n.number) both.ends.answer) ∙ done

  zeros : (through_number_of t z rects p m a q k ≡ 0) × (through_number_of t' z rects p (main_view_of t z p m) (auxiliary_view_of t z p a) q' k' ≡ 0)
  unfolding both_number_of
  zeros = first_zero (through_number_of t z rects p m a q k) _ none

  left : (buffers_in m' ++ (buffers_in a' ++ (picture_in x l ++ picture_in x' l'))) ≡ both_buffers_of 0 t t' z rects p m a q k q' k'
  left = both.ends.buffers ∙ ap (λ (n : ℕ). both_buffers_of n t t' z rects p m a q k q' k') none

  -- two walks that answer 0 leave the picture laid over each of the earlier ones
  pub both_laid : (x ≡ laid_over z rects p q) × (x' ≡ laid_over z rects p q')
  unfolding both_buffers_of
  both_laid = (
    ap (λ (l : List (List ℕ)). three_of (drop 6 l)) left ∙ through_laid t z rects p m a q k zeros.0,
    ap (λ (l : List (List ℕ)). three_of (drop 10 l)) left ∙ through_laid t' z rects p (main_view_of t z p m) (auxiliary_view_of t z p a) q' k' zeros.1,
  )

  pub both_maps_laid : (l ≡ laid_map z rects k) × (l' ≡ laid_map z rects k')
  unfolding both_buffers_of
  both_maps_laid = (
    ap (λ (l : List (List ℕ)). get_or l 9 []) left ∙ through_map_laid t z rects p m a q k zeros.0,
    ap (λ (l : List (List ℕ)). get_or l 13 []) left ∙ through_map_laid t' z rects p (main_view_of t z p m) (auxiliary_view_of t z p a) q' k' zeros.1,
  )

-- one earlier picture, lent twice: the two ways leave the same four buffers, to the last byte
pub both_alike : (t t' : Way) (z : Size) (rects : List ℕ) (p m a q : Planes) (k : List ℕ) (r : Answer) (m' a' x x' : Planes) (l l' : List ℕ)
    → BothOutcome t t' z rects p m a q k q k r m' a' x l x' l' → r.number ≡ 0
    → (x.y ≡ x'.y) × (x.u ≡ x'.u) × (x.v ≡ x'.v) × (l ≡ l')
both_alike t t' z rects p m a q k r m' a' x x' l l' both done =
    let laid = both_laid t t' z rects p m a q k q k r m' a' x l x' l' both done in
    let maps = both_maps_laid t t' z rects p m a q k q k r m' a' x l x' l' both done in
    let same : x ≡ x' = laid.0 ∙ sym laid.1 in
    (λ i. (same i).y, λ i. (same i).u, λ i. (same i).v, maps.0 ∙ sym maps.1)
