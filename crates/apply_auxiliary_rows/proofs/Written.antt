-- A row of a chroma plane when the part that a row function lent has come back is what the contract asks. One law for each kind of row, over
-- which plane it is: U and V cite the same. Assumes nothing.
use Prim.Native.Nat.{ℕ, ◌+◌, ◌*◌, ◌-◌, ◌/◌, ◌%◌, ◌<◌, ◌≤◌, min}
use native.Mathlib.Omega.{arith}
use mathlib.Core.Path.{◌≡◌, refl, sym, ap, ◌∙◌}
use mathlib.Core.Bool.{true, cond}
use mathlib.Core.Logic.{⊎_elim}
use mathlib.Core.List.{List}
use lib.ListN.{length, get_or}
use Rattle.lent.specs.Paint.{paint, painted, every}
use Rattle.lent.specs.Samples.{sample}
use Rattle.lent.specs.Sizes.{half_up}
use Rattle.lent.proofs.Bools.{cond-true, cond-false}
use Rattle.lent.proofs.Paint.{paint_over}
use Rattle.picture.specs.declared.Size.{Size}
use Rattle.picture.specs.Sizes.{stride_of, rows_of}
use Rattle.view.specs.declared.View.{View}
use Rattle.layout.specs.declared.Chroma.{Chroma}
use Rattle.layout.specs.declared.Layout.TheVariants.{V1, V2}
use Rattle.layout.specs.Maps.{part_of, shift, upper_of}
use Rattle.layout.specs.Exists.{fed, v2_odds_below_of, v2_evens_below_of}
use Rattle.layout.proofs.Pairs.{v1_odd_facts, v1_odd_holds, v1_even_facts, v1_even_holds, v2_odd_holds, v2_even_holds}
use Rattle.columns.specs.Turns.{odd, even, woven}
use Rattle.columns.proofs.Turns.{parity, odd-true, is_odd, not-odd, even-true, is_even}
use Rattle.columns.proofs.Sources.{odd_shift, even-shift, part_at}
use Rattle.apply_auxiliary_rows.specs.Rows.{part_sample, auxiliary_source, auxiliary_row, auxiliary_only, AreaFits}
use Rattle.apply_auxiliary_rows.proofs.Area.{part, back_in, area_written, narrower}
use Rattle.apply_auxiliary_rows.proofs.Feeds.{v2_odds_facts, v2_odds_holds, v2_evens_facts, v2_evens_holds}
use Rattle.apply_auxiliary_rows.proofs.Limits.{odds_below_evens}
use Rattle.apply_auxiliary_rows.proofs.Sources.{v1_odd_source, v1_even_source, v2_odd_part, v2_even_part}

-- the plane k holds xs; of its row the columns from left to below `stop` were lent, and came back as ys. n is the code's stride, and what
-- was read starts at `at`, the own row's start or its own half's
module _ (k : Chroma) (z : Size) (w : View) (vy vu vv xs ys : List ℕ) (row left right stop n at : ℕ) (fits : AreaFits z (length xs) (row + 1) left right) (is-stride : n ≡ stride_of z) (low : left ≤ stop) where
  pub v1_odd_written : row % 2 ≡ 1 → upper_of row + 8 < w.height → at ≡ (upper_of row + shift k 8) * w.luma_stride → stop ≡ min right w.width
      → length ys ≡ length (part xs (row * n + left) (row * n + stop)) → ys ≡ part vy (at + left) (at + stop)
      → back_in xs (row * n + left) (row * n + stop) ys ≡ painted (stride_of z) (rows_of z) (auxiliary_row V1 w row left right) (auxiliary_source V1 k w vy vu vv) xs
  v1_odd_written by pair own stops long is =
      area_written z xs row left right fits n is-stride stop every _ every (auxiliary_source V1 k w vy vu vv) _ ys low (omega arith) (paint_over _ _ long)
      (λ j h. refl)
      (λ j h e. ap (λ (l : List ℕ). get_or l j 0) is
      ∙ part_at vy (at + left) (at + stop - (at + left)) j ((upper_of row + shift k 8) * w.luma_stride + (left + j)) (omega arith) (omega arith)
      ∙ sym (v1_odd_source k w vy vu vv row (left + j) by))
      (λ c l h e. (omega arith, v1_odd_holds w.width w.height row c by pair (omega arith)))
      (λ c l h e. (omega (arith, v1_odd_facts w.width w.height row c by e), refl))

  -- the samples are those of the view's plane of the same name
  pub v1_even_written : (samples : List ℕ) → ((r c : ℕ) → part_sample w vy vu vv (part_of k) r c ≡ sample samples w.chroma_stride r c)
      → row % 2 ≡ 0 → row / 2 < half_up w.height → at ≡ row / 2 * w.chroma_stride → stop ≡ min right (2 * half_up w.width)
      → ys ≡ paint odd (λ j. get_or (part samples (at + left / 2) (at + stop / 2)) (j / 2) 0) (part xs (row * n + left) (row * n + stop))
      → back_in xs (row * n + left) (row * n + stop) ys ≡ painted (stride_of z) (rows_of z) (auxiliary_row V1 w row left right) (auxiliary_source V1 k w vy vu vv) xs
  unfolding sample
  v1_even_written samples named by there own stops is =
      let e = fits.even_left in
      let e' = fits.even_right in
      area_written z xs row left right fits n is-stride stop odd _ odd (auxiliary_source V1 k w vy vu vv) _ ys low (omega arith) is
      (λ j h. odd_shift left j e)
      (λ j h o. part_at samples (at + left / 2) (at + stop / 2 - (at + left / 2)) (j / 2) (row / 2 * w.chroma_stride + (left + j) / 2) (omega arith) (omega arith)
      ∙ sym (v1_even_source k w vy vu vv row (left + j) by ∙ named (row / 2) ((left + j) / 2)))
      (λ c l h o. (omega arith, v1_even_holds w.width w.height row c by (odd-true c o) there (omega arith)))
      (λ c l h f. let t = v1_even_facts w.width w.height row c by f in (omega arith, is_odd c t.0))

  pub v2_odds_written : (W : ℕ) → row < w.height → at ≡ row * w.luma_stride + shift k (W / 2) → stop ≡ min right (v2_odds_below_of W w.width)
      → ys ≡ paint odd (λ j. get_or (part vy (at + left / 2) (at + stop / 2)) (j / 2) 0) (part xs (row * n + left) (row * n + stop))
      → back_in xs (row * n + left) (row * n + stop) ys ≡ painted (stride_of z) (rows_of z) (auxiliary_only odd (V2 W) w row left right) (auxiliary_source (V2 W) k w vy vu vv) xs
  v2_odds_written W there own stops is =
      let e = fits.even_left in
      let e' = fits.even_right in
      area_written z xs row left right fits n is-stride stop odd _ odd (auxiliary_source (V2 W) k w vy vu vv) _ ys low (omega arith) is
      (λ j h. odd_shift left j e)
      (λ j h o. v2_odd_part W k w vy vu vv row at left stop j e (omega arith) h own (odd-true j o))
      (λ c l h o. (omega arith, v2_odds_holds W w row c (odd-true c o) there (omega arith)))
      (λ c l h f. let t = v2_odds_facts W w row c f in (omega arith, is_odd c t.0))

  pub v2_evens_written : (W : ℕ) → row % 2 ≡ 1 → row / 2 < half_up w.height → at ≡ row / 2 * w.chroma_stride + shift k (W / 4)
      → stop ≡ min right (v2_evens_below_of W w.width)
      → ys ≡ paint even (λ j. woven (part vu (at + left / 4) (at + (stop / 2 + 1) / 2)) (part vv (at + left / 4) (at + (stop / 2 + 1) / 2)) (left / 2 % 2 + j / 2))
      (part xs (row * n + left) (row * n + stop))
      → back_in xs (row * n + left) (row * n + stop) ys ≡ painted (stride_of z) (rows_of z) (auxiliary_only even (V2 W) w row left right) (auxiliary_source (V2 W) k w vy vu vv) xs
  v2_evens_written W by there own stops is =
      let e = fits.even_left in
      let e' = fits.even_right in
      area_written z xs row left right fits n is-stride stop even _ even (auxiliary_source (V2 W) k w vy vu vv) _ ys low (omega arith) is
      (λ j h. even-shift left j e)
      (λ j h o. v2_even_part W k w vy vu vv row at left stop j e (omega arith) h own (even-true j o))
      (λ c l h o. (omega arith, v2_evens_holds W w row c (even-true c o) by there (omega arith)))
      (λ c l h f. let t = v2_evens_facts W w row c f in (omega arith, is_even c t.0))

  -- below the limit of the odd columns the even ones exist too, so that every column to `stop` is fed; the chroma rows' own halves start at `under`
  pub v2_all_written : (W under : ℕ) → row % 2 ≡ 1 → row < w.height → row / 2 < half_up w.height
      → at ≡ row * w.luma_stride + shift k (W / 2) → under ≡ row / 2 * w.chroma_stride + shift k (W / 4)
      → stop ≡ min right (v2_odds_below_of W w.width)
      → ys ≡ paint every (λ j. cond (odd j) (get_or (part vy (at + left / 2) (at + stop / 2)) (j / 2) 0)
      (woven (part vu (under + left / 4) (under + (stop / 2 + 1) / 2)) (part vv (under + left / 4) (under + (stop / 2 + 1) / 2)) (left / 2 % 2 + j / 2)))
      (part xs (row * n + left) (row * n + stop))
      → back_in xs (row * n + left) (row * n + stop) ys ≡ painted (stride_of z) (rows_of z) (auxiliary_row (V2 W) w row left stop) (auxiliary_source (V2 W) k w vy vu vv) xs
  v2_all_written W under by luma chroma own own' stops is =
      let e = fits.even_left in
      let e' = fits.even_right in
      let even-stop : stop % 2 ≡ 0 = omega arith in
      let all : (c : ℕ) → c < stop → fed (V2 W) w.width w.height row c ≡ true =
      λ c h. ⊎_elim
      (λ o. v2_odd_holds W w.width w.height row c o luma (omega arith))
      (λ o. v2_even_holds W w.width w.height row c o by chroma (omega (arith, odds_below_evens W w.width)))
      (parity c) in
      area_written z xs row left stop (narrower fits low (omega arith) even-stop) n is-stride stop every _ every (auxiliary_source (V2 W) k w vy vu vv) _ ys low (omega arith) is
      (λ j h. refl)
      (λ j h t. ⊎_elim
      (λ o. cond-true (odd j) _ _ (is_odd j o) ∙ v2_odd_part W k w vy vu vv row at left stop j e even-stop h own o)
      (λ o. cond-false (odd j) _ _ (not-odd j o) ∙ v2_even_part W k w vy vu vv row under left stop j e even-stop h own' o)
      (parity j))
      (λ c l h t. (h, all c h))
      (λ c l h t. (h, refl))
