-- A row of a view of a split, as the code looks at it, is what the split has there; and the rows of the picture that it reads are there.
-- Assumes nothing.
use Prim.Native.Nat.{ℕ, ◌+◌, ◌*◌, ◌-◌, ◌/◌, ◌%◌, ◌<◌, ◌≤◌}
use native.Mathlib.Nat.{le_trans, add-zero, zero-add}
use native.Mathlib.Omega.{arith}
use mathlib.Core.Path.{◌≡◌, refl, sym, ap, ◌∙◌}
use mathlib.Core.Bool.{not}
use mathlib.Core.List.{List}
use lib.Dec.{eqb}
use lib.ListN.{length, get_or}
use borrow.Author.Tests.{lt-ltb, le-ltb}
use Rattle.lent.proofs.Cells.{row_in}
use Rattle.layout.specs.Maps.{PY, PU, PV, shift, half_of, into}
use Rattle.layout.specs.declared.Chroma.{Chroma}
use Rattle.layout.specs.declared.Chroma.TheVariants.{CU, CV}
use Rattle.layout.specs.declared.Layout.TheVariants.{V1, V2}
use Rattle.layout.proofs.Halves.{half_at}
use Rattle.split_rows.specs.Fits.{WideFits}
use Rattle.split_views.specs.Views.{seen, pick_chroma, auxiliary_sample}
use Rattle.check_rows.specs.declared.Taken.{Taken}
use Rattle.check_rows.specs.declared.Taken.TheVariants.{Odds, Fourths, Between}
use Rattle.check_rows.specs.Rows.{wrong_at, first_wrong, step_of, first_of}
use Rattle.check_rows.proofs.Firsts.{first_same}
use Rattle.check_rows.proofs.Rows.{part_of, right_none, right_all, wrong_part, wrong_rest}
use Rattle.check_pair.specs.declared.Name.{Name}
use Rattle.check_pair.specs.Rows.{full_of, halves_of, LineFits}

-- two sources that agree on every column have the same first wrong one
pub wrong_same : (row : List ℕ) (s s' : ℕ → ℕ) → ((c : ℕ) → c < length row → s c ≡ s' c) → first_wrong row s ≡ first_wrong row s'
unfolding first_wrong
wrong_same row s s' agree = first_same (length row) (wrong_at row s) (wrong_at row s') (λ c h. ap (λ (y : ℕ). not (eqb (get_or row c 0) y)) (agree c h))

-- ---- the picture has the rows that are read

module _ {n : Name} {len m stride line : ℕ} (fits : LineFits n len m stride line) where
  pub line_reach : (r : ℕ) → r < full_of n line - full_of n line % 16 + 16 → r * stride + stride ≤ m
  line_reach r lt = le_trans (row_in stride (full_of n line - full_of n line % 16 + 16) r lt) fits.block

  -- all of a row, or each step-th sample of it in len columns
  pub line_fits : (step k r : ℕ) → stride % step ≡ 0 → stride ≤ step * k → r < full_of n line - full_of n line % 16 + 16 → WideFits k m step stride r
  line_fits step k r even room lt = record { even = even; room = room; reach = line_reach r lt }

-- ---- V1

module _ (stride : ℕ) (u v : List ℕ) (line c : ℕ) where
  pub v1_first : line % 16 < 8 → seen 128 u stride (line - line % 16 + 2 * (line % 16) + 1) c ≡ auxiliary_sample V1 stride u v PY line c
  unfolding auxiliary_sample
  v1_first h = rw (lt-ltb (line % 16) 8 h) (ap (λ (r : ℕ). seen 128 u stride r c) (omega arith))

  pub v1_last : 8 ≤ line % 16 → seen 128 v stride (line - line % 16 + 2 * (line % 16 - 8) + 1) c ≡ auxiliary_sample V1 stride u v PY line c
  unfolding auxiliary_sample
  v1_last h = rw (le-ltb (line % 16) 8 h) (ap (λ (r : ℕ). seen 128 v stride r c) (omega arith))

-- ---- V2, in halves

module _ (stride : ℕ) (u v : List ℕ) (line len c : ℕ) where
  pub v2_luma : halves_of Odds (len / 2) stride u v line c ≡ auxiliary_sample (V2 len) stride u v PY line c
  unfolding auxiliary_sample halves_of
  v2_luma = refl

  quarter : len / 2 ≡ 2 * len / 4
  quarter = omega arith

  pub v2_fourths : halves_of Fourths (len / 2) stride u v (2 * line + 1) c ≡ auxiliary_sample (V2 (2 * len)) stride u v PU line c
  unfolding auxiliary_sample halves_of
  v2_fourths = (λ i. seen 128 (pick_chroma (half_of (quarter i) c) u v) stride (2 * line + 1) (add-zero (4 * into (quarter i) c) i))

  pub v2_between : halves_of Between (len / 2) stride u v (2 * line + 1) c ≡ auxiliary_sample (V2 (2 * len)) stride u v PV line c
  unfolding auxiliary_sample halves_of
  v2_between = (λ i. seen 128 (pick_chroma (half_of (quarter i) c) u v) stride (2 * line + 1) (4 * into (quarter i) c + 2))

-- the first wrong column of a row in halves is that of the first half, or else of the second
module _ (k : Taken) (row u v : List ℕ) (stride line : ℕ) (even : length row % 2 ≡ 0) where
  abbrev half : ℕ
  half = length row / 2

  abbrev held : ℕ → ℕ
  held = halves_of k half stride u v line

  abbrev taken : List ℕ → ℕ → ℕ
  taken plane c = seen 128 plane stride line (step_of k * c + first_of k)

  -- j places into the half of a plane
  in_half : (h : Chroma) (j : ℕ) → j < half → taken (pick_chroma h u v) j ≡ held (shift h half + j)
  unfolding halves_of
  in_half h j lt =
      let at = half_at h half j refl lt in
      sym (λ i. seen 128 (pick_chroma (at.0 i) u v) stride line (step_of k * at.1 i + first_of k))

  module _ {f : ℕ} (first : f ≡ first_wrong (part_of row 0 half) (taken u)) where
    pub first_half : f < half → f ≡ first_wrong row held
    first_half lt = sym (zero-add f) ∙ wrong_part row held (taken u) 0 half (omega arith) (omega arith) (λ j h. in_half CU j (omega arith)) (right_none row held) first (omega arith)

    pub second_half : {g : ℕ} → half ≤ f → g ≡ first_wrong (part_of row half (length row)) (taken v) → half + g ≡ first_wrong row held
    second_half ge second =
        wrong_rest row held (taken v) half (length row) (omega arith) (omega arith) (λ j h. in_half CV j (omega arith))
        (right_all row held (taken u) 0 half (omega arith) (omega arith) (λ j h. in_half CU j (omega arith)) (right_none row held) first (omega arith))
        second refl
