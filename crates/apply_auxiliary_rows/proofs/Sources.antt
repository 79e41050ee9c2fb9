-- What the view has for a place, by the kind of its row or column, in the form in which the row writers read it: byte j of the part of
-- the view's row that a row writer is lent. Assumes nothing.
use Prim.Native.Nat.{ℕ, ◌+◌, ◌*◌, ◌-◌, ◌/◌, ◌%◌, ◌<◌}
use native.Mathlib.Omega.{arith}
use mathlib.Core.Path.{◌≡◌, refl, sym, ap, ◌∙◌}
use mathlib.Core.Bool.{Bool, true, false, cond}
use mathlib.Core.Logic.{⊎_elim}
use mathlib.Core.List.{List}
use lib.Dec.{eqb}
use lib.ListN.{get_or, take, drop}
use borrow.Author.Tests.{eq-eqb, eqb-true}
use Rattle.lent.specs.Samples.{sample}
use Rattle.lent.proofs.Bools.{never_true, cond-true, cond-false}
use Rattle.view.specs.declared.View.{View}
use Rattle.layout.specs.declared.Chroma.{Chroma}
use Rattle.layout.specs.declared.Layout.TheVariants.{V1, V2}
use Rattle.layout.specs.Maps.{PU, PV, Spot, part_of, shift, upper_of}
use Rattle.layout.proofs.Spots.{v1_odd_spot, v1_even_spot, v2_odd_spot, v2_even_spot}
use Rattle.columns.specs.Turns.{woven}
use Rattle.columns.proofs.Sources.{part_at}
use Rattle.columns.proofs.Turns.{parity, woven-odd, woven-even}
use Rattle.apply_auxiliary_rows.specs.Rows.{part_sample, view_sample, auxiliary_source}

-- of the even columns, those by fours are from u, those between from v
turns_part : (u v : List ℕ) (at left stop j : ℕ) → left % 2 ≡ 0 → stop % 2 ≡ 0 → left + j < stop → j % 2 ≡ 0
    → woven (take (at + (stop / 2 + 1) / 2 - (at + left / 4)) (drop (at + left / 4) u)) (take (at + (stop / 2 + 1) / 2 - (at + left / 4)) (drop (at + left / 4) v)) (left / 2 % 2 + j / 2)
    ≡ cond (eqb ((left + j) % 4) 0) (get_or u (at + (left + j) / 4) 0) (get_or v (at + (left + j) / 4) 0)
turns_part u v at left stop j e e' h ej =
    let m : ℕ = left / 2 % 2 + j / 2 in
    let from : ℕ = at + left / 4 in
    let to : ℕ = at + (stop / 2 + 1) / 2 in
    let place : from + m / 2 ≡ at + (left + j) / 4 = omega arith in
    let room : m / 2 < to - from = omega arith in
    ⊎_elim
    (λ o. let four : (left + j) % 4 ≡ 2 = omega arith in
    let no = never_true (eqb ((left + j) % 4) 0) (λ p. omega (arith, eqb-true ((left + j) % 4) 0 p)) in
    woven-odd _ _ m o ∙ part_at v from (to - from) (m / 2) (at + (left + j) / 4) room place ∙ sym (cond-false (eqb ((left + j) % 4) 0) _ _ no))
    (λ z. let four : (left + j) % 4 ≡ 0 = omega arith in
    woven-even _ _ m z ∙ part_at u from (to - from) (m / 2) (at + (left + j) / 4) room place ∙ sym (cond-true (eqb ((left + j) % 4) 0) _ _ (eq-eqb ((left + j) % 4) 0 four)))
    (parity m)

module _ (k : Chroma) (w : View) (vy vu vv : List ℕ) (r c : ℕ) where
  v2_odd_source : (W : ℕ) → c % 2 ≡ 1 → auxiliary_source (V2 W) k w vy vu vv r c ≡ get_or vy (r * w.luma_stride + shift k (W / 2) + c / 2) 0
  unfolding auxiliary_source sample
  v2_odd_source W h =
      ap (λ (s : Spot). view_sample w vy vu vv s) (v2_odd_spot k r c W h)
      ∙ ap (λ (i : ℕ). get_or vy i 0) (omega arith)

  by_turns : (b : Bool) (n j : ℕ) → part_sample w vy vu vv (cond b PU PV) n j ≡ cond b (get_or vu (n * w.chroma_stride + j) 0) (get_or vv (n * w.chroma_stride + j) 0)
  unfolding sample
  by_turns true n j = refl
  by_turns false n j = refl

  v2_even_source : (W at : ℕ) → at ≡ r / 2 * w.chroma_stride + shift k (W / 4) → c % 2 ≡ 0
      → auxiliary_source (V2 W) k w vy vu vv r c ≡ cond (eqb (c % 4) 0) (get_or vu (at + c / 4) 0) (get_or vv (at + c / 4) 0)
  unfolding auxiliary_source
  v2_even_source W at is h =
      ap (λ (s : Spot). view_sample w vy vu vv s) (v2_even_spot k r c W h)
      ∙ by_turns (eqb (c % 4) 0) (r / 2) _
      ∙ ap (λ (i : ℕ). cond (eqb (c % 4) 0) (get_or vu i 0) (get_or vv i 0)) (omega arith)

  pub v1_odd_source : r % 2 ≡ 1 → auxiliary_source V1 k w vy vu vv r c ≡ get_or vy ((upper_of r + shift k 8) * w.luma_stride + c) 0
  unfolding auxiliary_source sample
  v1_odd_source h = ap (λ (s : Spot). view_sample w vy vu vv s) (v1_odd_spot k r c h)

  pub v1_even_source : r % 2 ≡ 0 → auxiliary_source V1 k w vy vu vv r c ≡ part_sample w vy vu vv (part_of k) (r / 2) (c / 2)
  unfolding auxiliary_source
  v1_even_source h = ap (λ (s : Spot). view_sample w vy vu vv s) (v1_even_spot k r c h)

-- the parts of the view's rows that are handed on, where `at` is the own half's start
module _ (W : ℕ) (k : Chroma) (w : View) (vy vu vv : List ℕ) (r at left stop j : ℕ) (by_two : left % 2 ≡ 0) (to-two : stop % 2 ≡ 0) (below : left + j < stop) where
  pub v2_odd_part : at ≡ r * w.luma_stride + shift k (W / 2) → j % 2 ≡ 1
      → get_or (take (at + stop / 2 - (at + left / 2)) (drop (at + left / 2) vy)) (j / 2) 0 ≡ auxiliary_source (V2 W) k w vy vu vv r (left + j)
  v2_odd_part is o =
      part_at vy (at + left / 2) (at + stop / 2 - (at + left / 2)) (j / 2) (at + (left + j) / 2) (omega arith) (omega arith)
      ∙ ap (λ (i : ℕ). get_or vy (i + (left + j) / 2) 0) is
      ∙ sym (v2_odd_source k w vy vu vv r (left + j) W (omega arith))

  pub v2_even_part : at ≡ r / 2 * w.chroma_stride + shift k (W / 4) → j % 2 ≡ 0
      → woven (take (at + (stop / 2 + 1) / 2 - (at + left / 4)) (drop (at + left / 4) vu)) (take (at + (stop / 2 + 1) / 2 - (at + left / 4)) (drop (at + left / 4) vv)) (left / 2 % 2 + j / 2)
      ≡ auxiliary_source (V2 W) k w vy vu vv r (left + j)
  v2_even_part is z = turns_part vu vv at left stop j by_two to-two below z ∙ sym (v2_even_source k w vy vu vv r (left + j) W at is (omega arith))
