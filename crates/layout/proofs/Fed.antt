-- Each chroma place is fed once: the maps of V1 and of V2 undo each other, case by case of the parity, where `Halves` has what U and V
-- share. That every block is fed once follows from the record alone.
-- Assumes nothing.
use Prim.Native.Nat.{ℕ, ◌+◌, ◌*◌, ◌-◌, ◌/◌, ◌%◌, ◌<◌}
use native.Mathlib.Omega.{arith}
use mathlib.Core.Path.{◌≡◌, refl, sym, ap, ◌∙◌}
use mathlib.Core.Bool.{true}
use mathlib.Core.Logic.{⊎_elim}
use Rattle.layout.specs.Maps.{Maps, maps, wide_of, layout_of, view_wide_of, Part, PY, PU, PV, Place, place, spot, to_main, part_of, shift, into, upper_of, to_v1, from_v1, to_v2, from_v2, maps_v1, maps_v2}
use Rattle.layout.specs.Exists.{present, carried}
use Rattle.layout.specs.Fed.{Fed, FedOnce, BlockFed, beside_of, below_of, across_of}
use Rattle.layout.specs.declared.Chroma.{Chroma}
use Rattle.layout.specs.declared.Chroma.TheVariants.{CU, CV}
use Rattle.layout.specs.declared.Way.{Way}
use Rattle.layout.specs.declared.Way.TheVariants.{AsV1, AsV2}
use Rattle.layout.specs.declared.WidthRule.TheVariants.{To16, To32}
use Rattle.layout.proofs.Halves.{shift_le, half_at, half_back, into_less}
use Rattle.layout.proofs.Exists.{parity, odd_test, even_test, fourth_test, between_test, fours, left_out_facts, left_out_row, left_out_col, present_facts, present_holds, carried_facts, carried_holds, side_chroma, side_turn}

place_path : {k m : Chroma} {r s c d : ℕ} → k ≡ m → r ≡ s → c ≡ d → place k r c ≡ place m s d
place_path p q t = λ i. place (p i) (q i) (t i)

pub spot_path : {k : Part} {r s c d : ℕ} → r ≡ s → c ≡ d → spot k r c ≡ spot k s d
spot_path {k} p q = λ i. spot k (p i) (q i)

-- ---- V1: of 16 luma rows, 8 for the odd rows of U and 8 for those of V

v1_luma : (k : Chroma) (r c : ℕ) → r % 2 ≡ 1 → (to_v1 k r c).row % 16 ≡ shift k 8 + r % 16 / 2
v1_luma CU r c o = rw (odd_test r o) (omega arith)
v1_luma CV r c o = rw (odd_test r o) (omega arith)

v1_chroma : (k : Chroma) (r c : ℕ) → r % 2 ≡ 0 → c % 2 ≡ 1 → from_v1 (part_of k) (r / 2) (c / 2) ≡ place k r c
v1_chroma CU r c z o = place_path refl (omega arith) (omega arith)
v1_chroma CV r c z o = place_path refl (omega arith) (omega arith)

upper_odd : (r i : ℕ) → i < 8 → upper_of (r - r % 16 + (2 * i + 1)) ≡ r - r % 16 + i
upper_odd r i h = let low : (r - r % 16 + (2 * i + 1)) % 16 ≡ 2 * i + 1 = omega arith in rw low (omega arith)

module _ (W H : ℕ) (w2 : W % 2 ≡ 0) (h16 : H % 16 ≡ 0) where
  v1_undone : (k : Chroma) (r c : ℕ) → carried W H (place k r c) ≡ true → maps_v1.place (to_v1 k r c) ≡ place k r c
  v1_undone k r c e =
      let f = carried_facts W H (place k r c) e in
      ⊎_elim
      (λ o. let t = odd_test r o in
      let low = rw t at (v1_luma k r c o) in
      let half = half_at k 8 (r % 16 / 2) low (omega arith) in
      rw t (place_path half.0 (rw half.1 (omega arith)) refl))
      (λ z. let odd : c % 2 ≡ 1 = ⊎_elim (λ o. omega arith) (λ o. o) (left_out_facts r c f.2) in rw (even_test r z) (v1_chroma k r c z odd))
      (parity r)

  v1_redone : (p : Part) (r c : ℕ) → present W H (spot p r c) ≡ true → maps_v1.spot (from_v1 p r c) ≡ spot p r c
  v1_redone PY r c e =
      let less = into_less 8 (r % 16) (omega arith) in
      let back = half_back 8 (r % 16) in
      rw (odd_test (from_v1 PY r c).row (omega arith), upper_odd r (into 8 (r % 16))) (spot_path (omega arith) refl)
  v1_redone PU r c e = rw (even_test (2 * r) (omega arith)) (spot_path (omega arith) (omega arith))
  v1_redone PV r c e = rw (even_test (2 * r) (omega arith)) (spot_path (omega arith) (omega arith))

  v1_lands : (k : Chroma) (r c : ℕ) → carried W H (place k r c) ≡ true → present W H (to_v1 k r c) ≡ true
  v1_lands k r c e =
      let f = carried_facts W H (place k r c) e in
      ⊎_elim
      (λ o. let t = odd_test r o in present_holds W H (to_v1 k r c) (rw t (omega (arith, shift_le k 8))) (rw t f.1))
      (λ z. let t = even_test r z in present_holds W H (to_v1 k r c) (rw (t, side_chroma) (omega arith)) (rw (t, side_chroma) (omega arith)))
      (parity r)

  v1_returns : (p : Part) (r c : ℕ) → present W H (spot p r c) ≡ true → carried W H (from_v1 p r c) ≡ true
  v1_returns PY r c e =
      let f = present_facts W H (spot PY r c) e in
      let less = into_less 8 (r % 16) (omega arith) in
      carried_holds W H (from_v1 PY r c) (omega arith) f.1 (left_out_row (from_v1 PY r c).row c (omega arith))
  v1_returns PU r c e =
      let f = present_facts W H (spot PU r c) e in
      carried_holds W H (from_v1 PU r c) (omega arith) (omega arith) (left_out_col (2 * r) (from_v1 PU r c).col (omega arith))
  v1_returns PV r c e =
      let f = present_facts W H (spot PV r c) e in
      carried_holds W H (from_v1 PV r c) (omega arith) (omega arith) (left_out_col (2 * r) (from_v1 PV r c).col (omega arith))

  pub v1_fed : Fed maps_v1 W H
  v1_fed = record {
    lands = λ l. v1_lands l.plane l.row l.col;
    undone = λ l. v1_undone l.plane l.row l.col;
    returns = λ s. v1_returns s.part s.row s.col;
    redone = λ s. v1_redone s.part s.row s.col;
  }

-- ---- V2: of a luma row, half for the odd columns of U and half for those of V; of a chroma row likewise

v2_luma : (W : ℕ) (k : Chroma) (r c : ℕ) → c % 2 ≡ 1 → (to_v2 W k r c).col ≡ shift k (W / 2) + c / 2
v2_luma W CU r c o = rw (odd_test c o) (omega arith)
v2_luma W CV r c o = rw (odd_test c o) (omega arith)

v2_chroma : (W : ℕ) (k : Chroma) (r c : ℕ) → c % 2 ≡ 0 → (to_v2 W k r c).col ≡ shift k (W / 4) + c / 4
v2_chroma W CU r c z = rw (even_test c z) (omega arith)
v2_chroma W CV r c z = rw (even_test c z) (omega arith)

module _ (W H : ℕ) (w4 : W % 4 ≡ 0) (h2 : H % 2 ≡ 0) where
  v2_undone : (k : Chroma) (r c : ℕ) → carried W H (place k r c) ≡ true → (maps_v2 W).place (to_v2 W k r c) ≡ place k r c
  v2_undone k r c e =
      let f = carried_facts W H (place k r c) e in
      ⊎_elim
      (λ o. let t = odd_test c o in
      let half = half_at k (W / 2) (c / 2) (rw t at (v2_luma W k r c o)) (omega arith) in
      rw t (place_path half.0 refl (rw half.1 (omega arith))))
      (λ z. let t = even_test c z in
      let half = half_at k (W / 4) (c / 4) (rw t at (v2_chroma W k r c z)) (omega arith) in
      let odd : r % 2 ≡ 1 = ⊎_elim (λ o. o) (λ o. omega arith) (left_out_facts r c f.2) in
      ⊎_elim
      (λ q. rw (t, fourth_test c q) (place_path half.0 (omega arith) (rw half.1 (omega arith))))
      (λ q. rw (t, between_test c q) (place_path half.0 (omega arith) (rw half.1 (omega arith))))
      (fours c z))
      (parity c)

  v2_redone : (p : Part) (r c : ℕ) → present W H (spot p r c) ≡ true → (maps_v2 W).spot (from_v2 W p r c) ≡ spot p r c
  v2_redone PY r c e =
      let back = half_back (W / 2) c in
      rw (odd_test (from_v2 W PY r c).col (omega arith)) (spot_path refl (omega arith))
  v2_redone PU r c e =
      let back = half_back (W / 4) c in
      let k = (from_v2 W PU r c).col in
      rw (even_test k (omega arith), fourth_test k (omega arith)) (spot_path (omega arith) (omega arith))
  v2_redone PV r c e =
      let back = half_back (W / 4) c in
      let k = (from_v2 W PV r c).col in
      rw (even_test k (omega arith), between_test k (omega arith)) (spot_path (omega arith) (omega arith))

  v2_lands : (k : Chroma) (r c : ℕ) → carried W H (place k r c) ≡ true → present W H (to_v2 W k r c) ≡ true
  v2_lands k r c e =
      let f = carried_facts W H (place k r c) e in
      ⊎_elim
      (λ o. let t = odd_test c o in present_holds W H (to_v2 W k r c) (rw t f.0) (rw t (omega (arith, shift_le k (W / 2)))))
      (λ z. let t = even_test c z in present_holds W H (to_v2 W k r c) (rw (t, side_turn) (omega arith)) (rw (t, side_turn) (omega (arith, shift_le k (W / 4)))))
      (parity c)

  v2_returns : (p : Part) (r c : ℕ) → present W H (spot p r c) ≡ true → carried W H (from_v2 W p r c) ≡ true
  v2_returns PY r c e =
      let f = present_facts W H (spot PY r c) e in
      let less = into_less (W / 2) c (omega arith) in
      carried_holds W H (from_v2 W PY r c) f.0 (omega arith) (left_out_col r (from_v2 W PY r c).col (omega arith))
  v2_returns PU r c e =
      let f = present_facts W H (spot PU r c) e in
      let less = into_less (W / 4) c (omega arith) in
      carried_holds W H (from_v2 W PU r c) (omega arith) (omega arith) (left_out_row (2 * r + 1) (from_v2 W PU r c).col (omega arith))
  v2_returns PV r c e =
      let f = present_facts W H (spot PV r c) e in
      let less = into_less (W / 4) c (omega arith) in
      carried_holds W H (from_v2 W PV r c) (omega arith) (omega arith) (left_out_row (2 * r + 1) (from_v2 W PV r c).col (omega arith))

  pub v2_fed : Fed (maps_v2 W) W H
  v2_fed = record {
    lands = λ l. v2_lands l.plane l.row l.col;
    undone = λ l. v2_undone l.plane l.row l.col;
    returns = λ s. v2_returns s.part s.row s.col;
    redone = λ s. v2_redone s.part s.row s.col;
  }

-- ---- both layouts, at the sizes of a view that a split makes; for V2 its width is W

pub maps-fed : (t : Way) (pw stride H : ℕ) → stride % 16 ≡ 0 → H % 16 ≡ 0 → let l = layout_of t pw stride in Fed (maps l) (view_wide_of l stride) H
maps-fed AsV1 pw stride H w h = v1_fed stride H (omega arith) h
maps-fed (AsV2 To16) pw stride H w h = v2_fed (wide_of To16 pw stride) H (omega arith) (omega arith)
maps-fed (AsV2 To32) pw stride H w h = v2_fed (wide_of To32 pw stride) H (omega arith) (omega arith)

-- ---- each place of a block is fed once, by any layout that is `Fed`

module _ (m : Maps) (W H : ℕ) (f : Fed m W H) where
  exactly : (l l' : Place) → carried W H l ≡ true → carried W H l' ≡ true → m.spot l ≡ m.spot l' → l ≡ l'
  exactly l l' p q e = sym (f.undone l p) ∙ ap m.place e ∙ f.undone l' q

  block_fed : (k : Chroma) (i j : ℕ) → 2 * i + 1 < H → 2 * j + 1 < W → BlockFed m W H k i j
  block_fed k i j hi hj =
      let a = carried_holds W H (beside_of k i j) (omega arith) hj (left_out_col (2 * i) (2 * j + 1) (omega arith)) in
      let b = carried_holds W H (below_of k i j) hi (omega arith) (left_out_row (2 * i + 1) (2 * j) (omega arith)) in
      let c = carried_holds W H (across_of k i j) hi hj (left_out_row (2 * i + 1) (2 * j + 1) (omega arith)) in
      record {
        beside = f.lands (beside_of k i j) a;
        below = f.lands (below_of k i j) b;
        across = f.lands (across_of k i j) c;
        beside_below = λ e. let same : 2 * i ≡ 2 * i + 1 = ap (λ (l : Place). l.row) (exactly _ _ a b e) in omega arith;
        beside_across = λ e. let same : 2 * i ≡ 2 * i + 1 = ap (λ (l : Place). l.row) (exactly _ _ a c e) in omega arith;
        below_across = λ e. let same : 2 * j ≡ 2 * j + 1 = ap (λ (l : Place). l.col) (exactly _ _ b c e) in omega arith;
        main = present_holds W H (to_main k (2 * i) (2 * j)) (rw side_chroma (omega arith)) (rw side_chroma (omega arith));
        main_holds = place_path refl (omega arith) (omega arith);
        even_even = λ s p e. ⊎_elim (λ o. omega arith) (λ o. omega arith) (left_out_facts (2 * i) (2 * j) (carried_facts W H (place k (2 * i) (2 * j)) (rw e at (f.returns s p))).2);
      }

  pub fed_once : FedOnce m W H
  fed_once = record { blocks = block_fed; holds = λ s p. (m.place s, f.returns s p, f.redone s p); exactly = exactly }
