-- Demand 3, once over any layout that is fed once. A chroma place that the auxiliary view carries lives at a spot of it which holds that
-- place (`Fed`), so it comes from there; any other is at an even row and an even column, and comes from the main view. V1 and V2 are
-- instances, V2 over any W.
-- Assumes nothing.
use Prim.Native.Nat.{ℕ, ◌*◌, ◌/◌, ◌%◌, ◌<◌, ◌≤◌}
use native.Mathlib.Omega.{arith}
use mathlib.Core.Path.{◌≡◌, refl, sym, ap, ap₂, ◌∙◌}
use mathlib.Core.Bool.{Bool, true, false, cond, ◌&&◌, true≢false}
use mathlib.Core.Logic.{⊎_elim}
use mathlib.Core.List.{List}
use lib.Dec.{ltb}
use borrow.Author.Tests.{lt-ltb}
use Rattle.lent.proofs.Bools.{both, cond-true}
use Rattle.picture.specs.declared.Size.{Size}
use Rattle.picture.specs.Sizes.{stride_of, rows_of}
use Rattle.view.specs.declared.View.{View}
use Rattle.layout.specs.declared.Chroma.{Chroma}
use Rattle.layout.specs.declared.Chroma.TheVariants.{CU, CV}
use Rattle.layout.specs.Maps.{PY, PU, PV, Maps, place, part_of, maps_v1, maps_v2}
use Rattle.layout.specs.Exists.{present, left_out, carried, gives}
use Rattle.layout.specs.Fed.{Fed}
use Rattle.layout.proofs.Exists.{parity, left_out_row, left_out_col, present_facts, carried_holds}
use Rattle.layout.proofs.Fed.{v1_fed, v2_fed}
use Rattle.agree_law.specs.Agrees.{Picture, inside, widened, Agrees, Same}
use Rattle.agree_law.specs.Steps.{ViewSamples, at_place, Extends, Steps}
use Rattle.agree_law.proofs.Inside.{luma_inside, widened-within}

-- what the auxiliary view leaves out is at an even row and an even column
even_even : (r c : ℕ) → left_out r c ≡ false → (r % 2 ≡ 0) × (c % 2 ≡ 0)
even_even r c e = (
  ⊎_elim (λ o. absurd (true≢false (sym (left_out_row r c o) ∙ e))) (λ z. z) (parity r),
  ⊎_elim (λ o. absurd (true≢false (sym (left_out_col r c o) ∙ e))) (λ z. z) (parity c),
)

twice_half : (n : ℕ) → n % 2 ≡ 0 → 2 * (n / 2) ≡ n
twice_half n e = omega arith

module _ (m : Maps) (w : View) (z : Size) (rects : List ℕ) (p p' q mid x : Picture) (main auxiliary : ViewSamples)
    (fed : Fed m w.width w.height) (wide : stride_of z ≤ w.width) (high : rows_of z ≤ w.height)
    (more : Extends z p p') (s : Steps m w z rects p' q mid x main auxiliary) where
  -- a place that the auxiliary view carries comes from there
  carried_chroma : (k : Chroma) (r c : ℕ) → r < rows_of z → c < stride_of z → widened z rects r c ≡ true → left_out r c ≡ true → x.chroma k r c ≡ p.chroma k r c
  carried_chroma k r c hr hc e o =
      let held : (j : Chroma) → carried w.width w.height (place j r c) ≡ true = λ j. carried_holds w.width w.height (place j r c) (omega arith) (omega arith) o in
      let there = present_facts w.width w.height (m.spot (place k r c)) (fed.lands (place k r c) (held k)) in
      s.auxiliary_chroma k r c hr hc
      ∙ cond-true (widened z rects r c && gives m w.width w.height r c) _ _
      (both (widened z rects r c) _ e
      (both (left_out r c && present w.width w.height (m.spot (place CU r c))) _
      (both (left_out r c) _ o (fed.lands (place CU r c) (held CU)))
      (fed.lands (place CV r c) (held CV))))
      ∙ s.auxiliary_is (m.spot (place k r c)).part (m.spot (place k r c)).row (m.spot (place k r c)).col there.0 there.1
      ∙ ap (at_place p') (fed.undone (place k r c) (held k))
      ∙ more.chroma k r c hr hc

  main_held : (k : Chroma) (r c : ℕ) → r < rows_of z → c < stride_of z → r % 2 ≡ 0 → c % 2 ≡ 0 → main (part_of k) (r / 2) (c / 2) ≡ p.chroma k r c
  main_held CU r c hr hc er ec = s.main_is PU (r / 2) (c / 2) (omega arith) (omega arith) ∙ ap₂ (p'.chroma CU) (twice_half r er) (twice_half c ec) ∙ more.chroma CU r c hr hc
  main_held CV r c hr hc er ec = s.main_is PV (r / 2) (c / 2) (omega arith) (omega arith) ∙ ap₂ (p'.chroma CV) (twice_half r er) (twice_half c ec) ∙ more.chroma CV r c hr hc

  -- and one that it does not comes from the main view
  main_chroma_lem : (k : Chroma) (r c : ℕ) → r < rows_of z → c < stride_of z → widened z rects r c ≡ true → left_out r c ≡ false → x.chroma k r c ≡ p.chroma k r c
  main_chroma_lem k r c hr hc e o =
      let even = even_even r c o in
      s.auxiliary_chroma k r c hr hc
      ∙ rw (e, o)
      (s.main_chroma_lem k r c hr hc
      ∙ cond-true (widened z rects r c && (ltb r w.height && ltb c w.width)) _ _
      (both (widened z rects r c) _ e (both (ltb r w.height) _ (lt-ltb r w.height (omega arith)) (lt-ltb c w.width (omega arith))))
      ∙ main_held k r c hr hc even.0 even.1)

  chroma_in : (k : Chroma) (r c : ℕ) → widened z rects r c ≡ true → x.chroma k r c ≡ p.chroma k r c
  chroma_in k r c e = go (left_out r c) refl
    where
      go : (t : Bool) → left_out r c ≡ t → x.chroma k r c ≡ p.chroma k r c
      go true o = let h = widened-within z rects r c e in carried_chroma k r c h.0 h.1 e o
      go false o = let h = widened-within z rects r c e in main_chroma_lem k r c h.0 h.1 e o

  luma_is : (r c : ℕ) → r < z.height → c < z.width → x.luma r c ≡ cond (inside rects r c) (main PY r c) (q.luma r c)
  luma_is r c hr hc =
      s.auxiliary_luma r c (omega arith) (omega arith)
      ∙ s.main_luma_lem r c (omega arith) (omega arith)
      ∙ ap (λ (b : Bool). cond b (main PY r c) (q.luma r c)) (luma_inside z w rects r c (omega arith) (omega arith) hr hc)

  pub agrees : Agrees z rects p q x
  agrees = record {
    luma_inside = λ r c hr hc e. luma_is r c hr hc ∙ rw e (s.main_is PY r c (omega arith) (omega arith) ∙ more.luma r c (omega arith) (omega arith));
    luma_elsewhere = λ r c hr hc e. luma_is r c hr hc ∙ rw e;
    chroma_inside = chroma_in;
    chroma_elsewhere = λ k r c hr hc e. s.auxiliary_chroma k r c hr hc ∙ rw e (s.main_chroma_lem k r c hr hc ∙ rw e);
  }

-- ---- the instances: the steps are those of p as if its planes went on past the stride

module _ (w : View) (z : Size) (rects : List ℕ) (p p' q mid x : Picture) (main auxiliary : ViewSamples)
    (wide : stride_of z ≤ w.width) (high : rows_of z ≤ w.height) (more : Extends z p p') where
  pub v1_agrees : w.width % 2 ≡ 0 → w.height % 16 ≡ 0 → Steps maps_v1 w z rects p' q mid x main auxiliary → Agrees z rects p q x
  v1_agrees w2 h16 s = agrees maps_v1 w z rects p p' q mid x main auxiliary (v1_fed w.width w.height w2 h16) wide high more s

  -- over any W that is a multiple of 4 and not below the stride
  pub v2_agrees : w.width % 4 ≡ 0 → w.height % 2 ≡ 0 → Steps (maps_v2 w.width) w z rects p' q mid x main auxiliary → Agrees z rects p q x
  v2_agrees w4 h2 s = agrees (maps_v2 w.width) w z rects p p' q mid x main auxiliary (v2_fed w.width w.height w4 h2) wide high more s

-- ---- two earlier pictures that were one are left alike

pub agrees_same : (z : Size) (rects : List ℕ) (p q x x' : Picture) → Agrees z rects p q x → Agrees z rects p q x' → Same z x x'
agrees_same z rects p q x x' a b = record {
  luma = λ r c hr hc. luma r c hr hc (inside rects r c) refl;
  chroma = λ k r c hr hc. chroma k r c hr hc (widened z rects r c) refl;
}
  where
    luma : (r c : ℕ) → r < z.height → c < z.width → (t : Bool) → inside rects r c ≡ t → x.luma r c ≡ x'.luma r c
    luma r c hr hc true e = a.luma_inside r c hr hc e ∙ sym (b.luma_inside r c hr hc e)
    luma r c hr hc false e = a.luma_elsewhere r c hr hc e ∙ sym (b.luma_elsewhere r c hr hc e)

    chroma : (k : Chroma) (r c : ℕ) → r < rows_of z → c < stride_of z → (t : Bool) → widened z rects r c ≡ t → x.chroma k r c ≡ x'.chroma k r c
    chroma k r c hr hc true e = a.chroma_inside k r c e ∙ sym (b.chroma_inside k r c e)
    chroma k r c hr hc false e = a.chroma_elsewhere k r c hr hc e ∙ sym (b.chroma_elsewhere k r c hr hc e)
