-- Demand 3 of the map: a main view and an auxiliary view over one list leave 2 in each block that lies in a widened rectangle, and every
-- other block as it was. Shown over any layout that is fed once, so of V1, and of V2 by either rule. A main view that is as large as the
-- padded planes marks just these blocks; an auxiliary view that is as large gives all three other samples of each.
-- Assumes nothing.
use Prim.Native.Nat.{ℕ, ◌+◌, ◌*◌, ◌<◌, ◌≤◌}
use native.Mathlib.Omega.{arith}
use mathlib.Core.Path.{◌≡◌, ap, ◌∙◌}
use mathlib.Core.Bool.{true, false, cond, ◌&&◌, and_assoc}
use mathlib.Core.List.{List}
use lib.Dec.{ltb, eqb}
use lib.ListN.{length}
use borrow.Author.Tests.{lt-ltb}
use Rattle.lent.proofs.Bools.{both}
use Rattle.picture.specs.declared.Size.{Size}
use Rattle.picture.specs.Sizes.{stride_of, rows_of}
use Rattle.view.specs.declared.View.{View}
use Rattle.layout.specs.declared.Chroma.{Chroma}
use Rattle.layout.specs.declared.Chroma.TheVariants.{CU, CV}
use Rattle.layout.specs.declared.Layout.{Layout}
use Rattle.layout.specs.Maps.{place, maps}
use Rattle.layout.specs.Exists.{present, left_out, carried, fed}
use Rattle.layout.specs.Fed.{Fed}
use Rattle.layout.proofs.Exists.{left_out_row, left_out_col, carried_holds}
use Rattle.rects.specs.Rects.{area}
use Rattle.rects.proofs.Rects.{taken_beside}
use Rattle.apply_main.specs.Main.{main_chroma}
use Rattle.map.specs.Map.{across_of, down_of, held_of}
use Rattle.map_apply.specs.Blocks.{main_marks, auxiliary_completes, after, map_after}
use Rattle.map_apply.specs.Blocks.Call.{Main, Auxiliary}
use Rattle.map_apply.proofs.Blocks.{main_any, auxiliary_completes_lem, other_holds}
use Rattle.map_apply.proofs.Laws.{map_length, held_after}
use Rattle.agree_law.specs.Agrees.{widened, Completed}
use Rattle.agree_law.proofs.Inside.{widened-within}

module _ (t : Layout) (w : View) (z : Size) (rects : List ℕ) (wide : stride_of z ≤ w.width) (high : rows_of z ≤ w.height) (feeds : Fed (maps t) w.width w.height) where
  -- a place of the padded planes that the main view leaves out, the auxiliary view gives
  given : (r c : ℕ) → r < w.height → c < w.width → left_out r c ≡ true → fed t w.width w.height r c ≡ true
  unfolding fed
  given r c hr hc o =
      let held : (k : Chroma) → carried w.width w.height (place k r c) ≡ true = λ k. carried_holds w.width w.height (place k r c) hr hc o in
      both (left_out r c && present w.width w.height ((maps t).spot (place CU r c))) _ (both (left_out r c) _ o (feeds.lands (place CU r c) (held CU))) (feeds.lands (place CV r c) (held CV))

  module _ (i j : ℕ) where
    marks : main_marks z w rects i j ≡ (widened z rects (2 * i) (2 * j) && (ltb (2 * i) w.height && ltb (2 * j) w.width))
    unfolding main_chroma
    marks =
        main_any z w rects i j
        ∙ taken_beside (main_chroma z w) (area z) (ltb (2 * i) w.height && ltb (2 * j) w.width) rects (2 * i) (2 * j)
        (λ left top right bottom. and_assoc (area z left top right bottom (2 * i) (2 * j)) (ltb (2 * i) w.height) (ltb (2 * j) w.width))

    -- what a block is after both calls, s being what it was before
    says_complete : (s : ℕ → ℕ → ℕ) → widened z rects (2 * i) (2 * j) ≡ true → after z (Auxiliary t w rects) (after z (Main w rects) s) i j ≡ 2
    says_complete s e =
        let h = widened-within z rects (2 * i) (2 * j) e in
        let a : main_marks z w rects i j ≡ true = marks ∙ both (widened z rects (2 * i) (2 * j)) _ e (both (ltb (2 * i) w.height) _ (lt-ltb (2 * i) w.height (omega arith)) (lt-ltb (2 * j) w.width (omega arith))) in
        let b : auxiliary_completes t z w rects i j ≡ true = auxiliary_completes_lem t z w rects i j ∙ both (widened z rects (2 * i) (2 * j)) _ e
        (other_holds (fed t w.width w.height) i j
        (given (2 * i) (2 * j + 1) (omega arith) (omega arith) (left_out_col (2 * i) (2 * j + 1) (omega arith)))
        (given (2 * i + 1) (2 * j) (omega arith) (omega arith) (left_out_row (2 * i + 1) (2 * j) (omega arith)))
        (given (2 * i + 1) (2 * j + 1) (omega arith) (omega arith) (left_out_row (2 * i + 1) (2 * j + 1) (omega arith)))) in
        rw (a, b)

    says_elsewhere : (s : ℕ → ℕ → ℕ) → widened z rects (2 * i) (2 * j) ≡ false → after z (Auxiliary t w rects) (after z (Main w rects) s) i j ≡ s i j
    says_elsewhere s e =
        let a : main_marks z w rects i j ≡ false = marks ∙ rw e in
        let b : auxiliary_completes t z w rects i j ≡ false = auxiliary_completes_lem t z w rects i j ∙ rw e in
        rw (a, b)

    -- the same of the map's bytes
    module _ (k : List ℕ) (fits : down_of z * across_of z ≤ length k) where
      held_twice : i < down_of z → j < across_of z
          → held_of z (map_after z (Auxiliary t w rects) (map_after z (Main w rects) k)) i j ≡ after z (Auxiliary t w rects) (after z (Main w rects) (held_of z k)) i j
      held_twice hi hj =
          held_after z (Auxiliary t w rects) (map_after z (Main w rects) k) (rw map_length fits) i j hi hj
          ∙ ap (λ (n : ℕ). cond (auxiliary_completes t z w rects i j && eqb n 1) 2 n) (held_after z (Main w rects) k fits i j hi hj)

      pub block_complete : widened z rects (2 * i) (2 * j) ≡ true → held_of z (map_after z (Auxiliary t w rects) (map_after z (Main w rects) k)) i j ≡ 2
      block_complete e = let h = widened-within z rects (2 * i) (2 * j) e in held_twice (omega arith) (omega arith) ∙ says_complete (held_of z k) e

      pub block_elsewhere : i < down_of z → j < across_of z → widened z rects (2 * i) (2 * j) ≡ false
          → held_of z (map_after z (Auxiliary t w rects) (map_after z (Main w rects) k)) i j ≡ held_of z k i j
      block_elsewhere hi hj e = held_twice hi hj ∙ says_elsewhere (held_of z k) e

  -- demand 3's record, of both calls
  pub completed : (k : List ℕ) → down_of z * across_of z ≤ length k → Completed z rects k (map_after z (Auxiliary t w rects) (map_after z (Main w rects) k))
  completed k fits = record {
    inside = λ i j e. block_complete i j k fits e;
    elsewhere = λ i j hi hj e. block_elsewhere i j k fits hi hj e;
  }
